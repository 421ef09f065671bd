-- What each step on a lock shows to the seat that takes it. A choice of this hub.
use Rattle.std.specs.Prelude.{◌≡◌, ◌≢◌, ℕ, List, ◌∷◌, Contains, Option, Some}
use mathlib.Core.List.{IsPrefix}
use Rattle.atomic_table.specs.Table.{Me, Step, rest}
use Rattle.inst_row.specs.declared.view.Front.{Front}
use Rattle.inst_row.specs.declared.view.RowView.{RowView}
use Rattle.inst_row.specs.Place.{place}
use Rattle.inst_row.specs.View.{took, gave}

module _ {T E K : Type 0} where
  -- The seat has and has seen what it had.
  abbrev pub tells_nothing : Step (Option T) → Me (Option T) (RowView E K) → ℕ →
      Me (Option T) (RowView E K) → Type 0
  tells_nothing step m n new = (new.0 ≡ m.0) × (new.1 ≡ m.1)

  -- If the word was 0, the value keeps its law and its history extends what was seen; else nothing
  -- changes.
  abbrev pub takes_lock : (K → ℕ → T → Type 0) → (T → List E) → Step (Option T) →
      Me (Option T) (RowView E K) → ℕ →
      Me (Option T) (RowView E K) → Type 0
  takes_lock law history step m n new =
      (n ≡ 0 → (p : ℕ) → step.word ≡ place p → (x : T) × ((k : K) → m.0.about ≡ Some k → law k p x)
      × ((f : Front E) → Contains m.0.fronts f → f.lock ≡ p → IsPrefix f.history (history x))
      × (new.0 ≡ took m.0 p (history x)) × (new.1 ≡ (place p, Some x) ∷ m.1))
      × (n ≢ 0 → tells_nothing step m n new)

  -- The history of the value that is given back counts as seen.
  abbrev pub gives_lock : (T → List E) → Step (Option T) → Me (Option T) (RowView E K) → ℕ →
      Me (Option T) (RowView E K) →
      Type 0
  gives_lock history step m n new = (p : ℕ) (y : T) → m.1 ≡ (place p, Some y) ∷ rest m.1 →
      (new.0 ≡ gave m.0 p (history y)) × (new.1 ≡ rest m.1)
