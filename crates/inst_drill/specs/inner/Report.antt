-- Outcomes that threads saw and the books don't have.
use Rattle.std.specs.Prelude.{◌≡◌, ◌≢◌, ◌+◌, ℕ, List, Some, slice_get, if◌then◌else◌}
use Rattle.inst_command.specs.declared.outcome.Outcome.{Outcome}
use Rattle.inst_command.specs.declared.outcome.State.{State}
use Rattle.inst_command.specs.declared.outcome.State.TheVariants.{Decided}
use Rattle.inst_command.specs.declared.place.Place.{Place}
use Rattle.inst_command.specs.declared.outcome.Outcome.TheVariants.{Accepted, TimedOut}
use Rattle.inst_journal.specs.Opened.{is_opening}
use Rattle.inst_journal.specs.declared.event.Event.{Event}
use Rattle.inst_participant.specs.InTheBooks.{state_in_books}
use Rattle.inst_drill.specs.Report.{books_end}

-- The pair is an outcome that the books don't have.
abbrev pub Contradicts : (ℕ → List Event) → Place × State → Type 0
Contradicts J pair =
    (outcome : Outcome) × (pair.1 ≡ Decided outcome) × (state_in_books J pair.0 ≢ Decided outcome)

-- None of these is such an outcome.
abbrev pub NoneContradicts : (ℕ → List Event) → List (Place × State) → Type 0
NoneContradicts J states =
    (i : ℕ) (pair : Place × State) → slice_get states i ≡ Some pair → ¬ Contradicts J pair

-- The counts of acceptances and time-outs after one more event.
abbrev pub counted_after : Event → ℕ → ℕ → ℕ × ℕ
counted_after event accepted timed_out =
    if is_opening event then (0, 0) else
    (if books_end Accepted event then (accepted + 1, timed_out) else
    (if books_end TimedOut event then (accepted, timed_out + 1) else (accepted, timed_out)))
