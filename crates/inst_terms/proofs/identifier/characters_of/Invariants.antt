use Rattle.std.proofs.Common.{◌≡◌, ℕ, ◌<◌, ◌≤◌, ◌*◌, ◌/◌, ◌%◌, get_or}
use Rattle.inst_terms.specs.inner.Identifier.{digit}
use Rattle.inst_terms.proofs.identifier.characters_of.Given as goal

abbrev pub invariant-loop-index : goal.invariant-loop-index
invariant-loop-index l = ((k : ℕ) → k < 9 * l.index → get_or l.characters k 0 ≡ digit (get_or l.words (k / 9) 0) (k % 9))
    × ((k : ℕ) → 9 * l.index ≤ k → get_or l.characters k 0 ≡ 0)
