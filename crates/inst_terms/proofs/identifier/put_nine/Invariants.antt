use Rattle.std.proofs.Common.{◌≡◌, ℕ, ◌+◌, ◌<◌, ◌≤◌, get_or, length}
use Rattle.inst_terms.specs.inner.Identifier.{digit}
use Rattle.inst_terms.proofs.identifier.put_nine.Given as goal

abbrev pub invariant-loop-place : goal.invariant-loop-place
invariant-loop-place l = (length l.characters ≡ 36) × ((k : ℕ) → k < l.place → get_or l.characters (l.start + k) 0 ≡ digit l.word k)
    × ((k : ℕ) → k < l.start → get_or l.characters k 0 ≡ get_or l.initial.characters k 0)
    × ((k : ℕ) → l.start + 9 ≤ k → get_or l.characters k 0 ≡ get_or l.initial.characters k 0)
