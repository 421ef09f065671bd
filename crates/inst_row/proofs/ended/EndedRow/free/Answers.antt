use Rattle.std.proofs.Common.{◌≡◌, ◌/◌, ◌%◌, false, arith, subst}
use Rattle.std.specs.Prelude.{slice_index_or}
use Rattle.std.specs.Mem.Slots.{slots_filled}
use mathlib.Core.Logic.{dite}
use native.Mathlib.Decide.{ℕ_discrete}
use Rattle.std.proofs.lemmas.Nat.{div-add-mod'}
use Rattle.inst_row.specs.Place.{place}
use Rattle.inst_row.proofs.ended.EndedRow.free.Goals as goal

pub free-requires : goal.free-requires
free-requires g c = λ k below.
    let e = c.args.self in
    dite (ℕ_discrete (k % 8) 0)
    (λ none. let whole : place (k / 8) ≡ k = omega (arith, div-add-mod' k 8) in
    subst (λ i. slice_index_or (slots_filled e.closed.slots) i false ≡ false) whole (c.requires.out (k / 8) (omega (arith, e.slots))))
    (λ some. e.between k below some)
