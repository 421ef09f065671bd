use Rattle.std.proofs.Common.{refl}
use Rattle.inst_log.proofs.Pieces.{read_extent}
use Rattle.inst_log.proofs.file_lines.FileLines.extent.Goals as goal

pub returns : goal.returns
returns c = λ file done reading no_more. read_extent file c.args.self.now done _ reading no_more refl c.end.ensures c.stops.ensures
