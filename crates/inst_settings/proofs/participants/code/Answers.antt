use Rattle.inst_settings.proofs.TextsThatAreNoCodes.{utf8_of_code}
use Rattle.inst_settings.proofs.participants.code.Goals as goal

pub returns-in_default-clause-code : goal.returns-in_default-clause-code
returns-in_default-clause-code c = λ is. c.in_default.ensures.cases.0 (utf8_of_code c.args.text.now is)
