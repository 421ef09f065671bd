use Rattle.std.proofs.Common.{refl}
use Rattle.inst_log.proofs.extent.Extent.of.Goals as goal

pub returns : goal.returns
returns c = record { len = refl; end = c.kept_len-end.ensures.len; closed = c.is_closed.ensures }
