use Rattle.std.proofs.Common.{◌≡◌, ◌≤◌, ℕ, length, get_or}
use Rattle.std.specs.Prelude.{vec_capacity}
use Rattle.inst_board.specs.declared.plain.Kept.TheVariants.{Unused as KeptUnused}
use Rattle.inst_board.proofs.plain.fill.Given as goal

abbrev pub invariant-loop : goal.invariant-loop
invariant-loop l = (length l.words.items ≡ l.counter) × (vec_capacity l.initial.words ≤ vec_capacity l.words)
    × ((j : ℕ) → get_or l.words.items j KeptUnused ≡ get_or l.initial.words.items j KeptUnused)
