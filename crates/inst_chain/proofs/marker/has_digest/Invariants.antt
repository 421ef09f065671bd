use Rattle.std.proofs.Common.{◌≡◌, length}
use Rattle.inst_log.specs.Layout.{recovered_lines}
use Rattle.inst_chain.specs.Chain.{has_digest}
use Rattle.inst_chain.proofs.marker.has_digest.Given as goal

abbrev pub invariant-loop-len : goal.invariant-loop-len
invariant-loop-len l = has_digest l.digest (recovered_lines l.bytes) ≡ has_digest l.digest (recovered_lines l.rest)

abbrev pub decreases-loop-len : goal.decreases-loop-len
decreases-loop-len l = length l.rest
