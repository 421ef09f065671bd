use Rattle.std.proofs.Common.{arith}
use Rattle.inst_terms.proofs.Identifiers.{zeros}
use Rattle.inst_terms.proofs.identifier.characters_of.Goals as goal

pub loop-index-init : goal.loop-index-init
loop-index-init c = (λ k below. absurd (omega arith), λ k any. zeros 36 k)
