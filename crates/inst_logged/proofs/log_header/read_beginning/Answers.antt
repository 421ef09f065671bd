use Rattle.inst_logged.proofs.FirstLine.{says, no_json}
use Rattle.inst_logged.proofs.log_header.read_beginning.Goals as goal

pub returns-in-Some : goal.returns-in-Some
returns-in-Some c = λ version mode s origin first. c.beginning_in.ensures version mode s origin first.settings (says version mode s origin first c.without_newline.ensures c.in_ok-value.field-0 c.in-Some.value c.in_ok-value.ensures c.in-Some.is)

pub returns-in-None : goal.returns-in-None
returns-in-None c = λ version mode s origin first. absurd (no_json version mode s origin first c.without_newline.ensures c.in_ok-value.field-0 c.in_ok-value.ensures c.in-None.is)
