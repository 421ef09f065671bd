-- The state of an own place as the participant's books have it. Asking by place is a choice of this
-- hub.
use Rattle.std.specs.Prelude.{ℕ, List, slice_get, Option, Some, None}
use Rattle.inst_command.specs.declared.outcome.Outcome.{Outcome}
use Rattle.inst_command.specs.declared.outcome.State.{State}
use Rattle.inst_command.specs.declared.outcome.State.TheVariants.{Unused, Pending, Decided}
use Rattle.inst_journal.specs.declared.event.Event.{Event}
use Rattle.inst_journal.specs.declared.event.Event.TheVariants.{Taken}
use Rattle.inst_journal.specs.Booked.{booked}
use Rattle.inst_journal.specs.Opened.{live_taken}

-- The state of a transfer with this booked outcome.
abbrev pub booked_state : Option Outcome → State
booked_state None = Pending
booked_state (Some outcome) = Decided outcome

-- The state of the transfer that this event took.
abbrev pub state_of_taken : ℕ → List Event → Option Event → State
state_of_taken who J None = Unused
state_of_taken who J (Some (Taken id to cents stamp)) = booked_state (booked who id J)
state_of_taken who J (Some _) = Unused

-- The state of the own live transfer at this index.
abbrev pub own_state : ℕ → List Event → ℕ → State
own_state who J index = state_of_taken who J (slice_get (live_taken who J) index)
