-- Agreement of both sides of each transfer, checked event by event against the other side's book.
-- Sound books agree exactly if they are closed. A choice of this hub.
use Rattle.std.specs.Prelude.{◌≡◌, ℕ, List, [], slice_get, Option, Some, None}
use Rattle.inst_base.specs.TimeLimit.{deadline_of}
use Rattle.inst_command.specs.declared.outcome.Outcome.{Outcome}
use Rattle.inst_command.specs.declared.outcome.Outcome.TheVariants.{Accepted, Rejected, TimedOut}
use Rattle.inst_journal.specs.declared.event.Event.{Event}
use Rattle.inst_journal.specs.declared.event.Event.TheVariants.{Funded, Defunded, Taken, Forwarded}
use Rattle.inst_journal.specs.declared.event.Event.TheVariants.{Booked, Fetched, Opened}
use Rattle.inst_journal.specs.Booked.{first_some, booked}
use Rattle.inst_ledger.specs.Book.{BookAndRoom}
use Rattle.inst_ledger.specs.Kept.{sending_of, forwarding_of}
use Rattle.inst_ledger.specs.declared.sending.Forwarding.{Forwarding}
use Rattle.inst_ledger.specs.declared.sending.Sending.{Sending}

-- The originator has booked an outcome that releases the amount.
abbrev pub IsReleased : Option Outcome → Type 0
IsReleased None = ⊥
IsReleased (Some Accepted) = ⊥
IsReleased (Some (Rejected reason)) = Unit {0}
IsReleased (Some TimedOut) = Unit {0}

-- The beneficiary's forwarding agrees with the submission, and its booked outcome with the
-- originator's. A transfer that was never forwarded was released.
abbrev pub IsReceived : ℕ → ℕ → Option Outcome → Option Outcome → Option Forwarding → Type 0
IsReceived cents deadline here there None = IsReleased here
IsReceived cents deadline here there (Some forwarding) =
    (forwarding.cents ≡ cents) × (forwarding.deadline ≡ deadline) × (there ≡ here)

-- The originator's submission agrees with the transfer forwarded to this beneficiary.
abbrev pub IsSent : ℕ → ℕ → ℕ → ℕ → Option Sending → Type 0
IsSent limit to cents deadline None = ⊥
IsSent limit to cents deadline (Some sending) =
    (sending.to ≡ to) × (sending.cents ≡ cents) × (deadline_of limit sending.stamp ≡ deadline)

-- An event of participant `who` agrees with the other side's book.
abbrev pub Agrees : ℕ → (ℕ → List Event) → ℕ → Event → Type 0
Agrees limit J who (Taken id to cents stamp) =
    IsReceived cents (deadline_of limit stamp) (booked who id (J who)) (booked who id (J to))
    (first_some (forwarding_of (who, id)) (J to))
Agrees limit J who (Forwarded from id cents deadline) =
    IsSent limit who cents deadline (first_some (sending_of id) (J from))
Agrees limit J who (Funded funding) = Unit {0}
Agrees limit J who (Defunded funding) = Unit {0}
Agrees limit J who (Booked from id outcome) = Unit {0}
Agrees limit J who (Fetched count) = Unit {0}
Agrees limit J who Opened = Unit {0}

-- The events of a ledger, or none if there is no ledger.
abbrev pub kept_in : Option BookAndRoom → List Event
kept_in None = []
kept_in (Some ledger) = ledger.book.events

-- The history in each participant's ledger, by number.
abbrev pub ledger_histories : List BookAndRoom → ℕ → List Event
ledger_histories ledgers p = kept_in (slice_get ledgers p)
