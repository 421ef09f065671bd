use Rattle.inst_log.proofs.Pieces.{shut_or_not}
use Rattle.inst_log.proofs.file_lines.FileLines.is_shut.Goals as goal

pub returns : goal.returns
returns c = λ file done reading no_more. shut_or_not file c.args.self.now done _ reading no_more c.is_shut.ensures
