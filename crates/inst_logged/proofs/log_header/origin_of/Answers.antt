use Rattle.inst_logged.proofs.FirstLine.{says, no_json}
use Rattle.inst_logged.proofs.log_header.origin_of.Goals as goal

pub returns-in-Some-clause-back : goal.returns-in-Some-clause-back
returns-in-Some-clause-back c = λ version mode s origin first. c.origin_in.ensures.back origin (says version mode s origin first c.without_newline.ensures c.in_ok-value.field-0 c.in-Some.value c.in_ok-value.ensures c.in-Some.is).origin_is

pub returns-in-None-clause-back : goal.returns-in-None-clause-back
returns-in-None-clause-back c = λ version mode s origin first. absurd (no_json version mode s origin first c.without_newline.ensures c.in_ok-value.field-0 c.in_ok-value.ensures c.in-None.is)
