use Rattle.std.proofs.lemmas.List.{take_rest}
use Rattle.inst_base.proofs.Streams.{rests-write}
use Rattle.inst_base.proofs.handing.write_bytes.Goals as goal

pub loop-rest-preserved : goal.loop-rest-preserved
loop-rest-preserved g c = rw take_rest (rests-write _ _ _ _ _ c.in-Ok.count c.loop-rest.invariant c.in-Ok.ensures.bytes)
