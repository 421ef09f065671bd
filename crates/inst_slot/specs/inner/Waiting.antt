-- Pairs of deadline and index, and the events that leave them unchanged.
use Rattle.std.specs.Prelude.{◌≡◌, ℕ, Bool, true, false, List, slice_get, Some}
use Rattle.inst_due.specs.Due.{has}
use Rattle.inst_journal.specs.declared.event.Event.{Event}
use Rattle.inst_journal.specs.declared.event.Event.TheVariants.{Funded, Defunded, Fetched}

-- Each pair has the deadline at its index.
abbrev pub AreTimed : List ℕ → List (ℕ × ℕ) → Type 0
AreTimed deadlines pairs = (d k : ℕ) → has pairs d k ≡ true → slice_get deadlines k ≡ Some d

-- True if the event takes, forwards and books no transfer, and is no opening.
abbrev pub is_apart : Event → Bool
is_apart (Funded funding) = true
is_apart (Defunded funding) = true
is_apart (Fetched count) = true
is_apart _ = false
