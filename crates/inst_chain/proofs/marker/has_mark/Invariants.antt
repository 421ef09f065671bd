use Rattle.std.proofs.Common.{◌≡◌, length}
use Rattle.inst_log.specs.Layout.{recovered_lines}
use Rattle.inst_chain.specs.Chain.{has_mark}
use Rattle.inst_chain.proofs.marker.has_mark.Given as goal

abbrev pub invariant-loop-len : goal.invariant-loop-len
invariant-loop-len l = has_mark (recovered_lines l.bytes) ≡ has_mark (recovered_lines l.rest)

abbrev pub decreases-loop-len : goal.decreases-loop-len
decreases-loop-len l = length l.rest
