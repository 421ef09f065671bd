use Rattle.inst_logged.proofs.LoggedLinesAnswerAlike.{lines_answer_alike}
use Rattle.inst_logged.proofs.laws.lines_answer_alike.Goals as goal

pub returns : goal.returns
returns c = lines_answer_alike
