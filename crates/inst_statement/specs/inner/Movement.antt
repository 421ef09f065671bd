-- The movement of an event: the kind of its line, the other participant and the amount, from the
-- events before it. A choice of this hub.
use Rattle.std.specs.Prelude.{ℕ, if◌then◌else◌, List, Option, Some, None}
use Rattle.inst_settings.specs.Settings.{same_text}
use Rattle.inst_command.specs.declared.line.LineKind.TheVariants.{Funded as FundedKind}
use Rattle.inst_command.specs.declared.line.LineKind.TheVariants.{Defunded as DefundedKind}
use Rattle.inst_command.specs.declared.line.LineKind.TheVariants.{Received, Paid}
use Rattle.inst_command.specs.declared.outcome.Outcome.TheVariants.{Accepted, Rejected, TimedOut}
use Rattle.inst_journal.specs.declared.event.Event.{Event}
use Rattle.inst_journal.specs.declared.event.Event.TheVariants.{Funded, Defunded, Taken, Forwarded}
use Rattle.inst_journal.specs.declared.event.Event.TheVariants.{Booked, Fetched, Opened}
use Rattle.inst_journal.specs.Booked.{first_some, same_transfer}
use Rattle.inst_statement.specs.declared.movement.Movement.{Movement}

-- The amount of the transfer with this key, if the event forwards it.
abbrev pub came : ℕ → List ℕ → Event → Option ℕ
came from id (Forwarded other_from other cents deadline) =
    if same_transfer from id other_from other then Some cents else None
came from id _ = None

-- The beneficiary and the amount of the transfer with this identifier, if the event takes it.
abbrev pub sent : List ℕ → Event → Option (ℕ × ℕ)
sent id (Taken other to cents stamp) = if same_text other id then Some (to, cents) else None
sent id _ = None

-- The movement of an accepted transfer that was received with this amount, or else sent with these
-- terms.
abbrev pub movement_of_accepted : ℕ → Option ℕ → Option (ℕ × ℕ) → Option Movement
movement_of_accepted from (Some cents) terms =
    Some (record { kind = Received; other = Some from; cents = cents })
movement_of_accepted from None (Some terms) =
    Some (record { kind = Paid; other = Some terms.0; cents = terms.1 })
movement_of_accepted from None None = None

-- The movement of an accepted transfer after these events.
abbrev pub accepted_movement : List Event → ℕ → List ℕ → Option Movement
accepted_movement front from id =
    movement_of_accepted from (first_some (came from id) front) (first_some (sent id) front)

-- The movement of an event after these events, if it has one.
abbrev pub movement_of : List Event → Event → Option Movement
movement_of front (Funded funding) =
    Some (record { kind = FundedKind; other = None; cents = funding.cents })
movement_of front (Defunded funding) =
    Some (record { kind = DefundedKind; other = None; cents = funding.cents })
movement_of front (Booked from id Accepted) = accepted_movement front from id
movement_of front (Booked from id (Rejected reason)) = None
movement_of front (Booked from id TimedOut) = None
movement_of front (Taken id to cents stamp) = None
movement_of front (Forwarded from id cents deadline) = None
movement_of front (Fetched count) = None
movement_of front Opened = None
