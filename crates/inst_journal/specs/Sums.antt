-- The plain sums over a participant's history, in cents. Funding in advance is a choice of this
-- hub; a transfer counts for a side once that side has booked it accepted (EPC004-16, chapter 4:
-- settlement in the processing flow).
use Rattle.std.specs.Prelude.{ℕ, ℤ, pos, ◌-ℤ◌, List, Option, Some, None, sum_by}
use Rattle.inst_command.specs.declared.outcome.Outcome.{Outcome}
use Rattle.inst_command.specs.declared.outcome.Outcome.TheVariants.{Accepted, Rejected, TimedOut}
use Rattle.inst_journal.specs.declared.event.Event.{Event}
use Rattle.inst_journal.specs.declared.event.Event.TheVariants.{Funded, Defunded, Taken, Forwarded}
use Rattle.inst_journal.specs.Booked.{booked, own_booked}

-- The amount that a Funded event adds.
abbrev pub funding : Event → ℕ
funding (Funded f) = f.cents
funding _ = 0

-- The amount that a Defunded event takes away.
abbrev pub defunding : Event → ℕ
defunding (Defunded funding) = funding.cents
defunding _ = 0

-- The sum of all fundings.
abbrev pub funded : List Event → ℕ
funded J = sum_by funding J

-- The sum of all defundings.
abbrev pub defunded : List Event → ℕ
defunded J = sum_by defunding J

-- The net funding, which is below 0 after credits were defunded.
abbrev pub net : List Event → ℤ
net J = pos (funded J) -ℤ pos (defunded J)

-- The amount if the outcome is Accepted, else 0.
abbrev pub if_accepted : Option Outcome → ℕ → ℕ
if_accepted None cents = 0
if_accepted (Some Accepted) cents = cents
if_accepted (Some (Rejected reason)) cents = 0
if_accepted (Some TimedOut) cents = 0

-- The amount if no outcome is booked, else 0.
abbrev pub amount_unbooked : Option Outcome → ℕ → ℕ
amount_unbooked None cents = cents
amount_unbooked (Some outcome) cents = 0

-- The amount that a forwarded transfer adds.
abbrev pub credit : List Event → Event → ℕ
credit J (Forwarded from id cents deadline) = if_accepted (booked from id J) cents
credit J _ = 0

-- The amount that a taken transfer takes away.
abbrev pub debit : List Event → Event → ℕ
debit J (Taken id to cents stamp) = if_accepted (own_booked id J) cents
debit J _ = 0

-- The amount that a taken transfer reserves.
abbrev pub reservation : List Event → Event → ℕ
reservation J (Taken id to cents stamp) = amount_unbooked (own_booked id J) cents
reservation J _ = 0

-- The sum of the forwarded transfers that are booked accepted.
abbrev pub credits : List Event → ℕ
credits J = sum_by (credit J) J

-- The sum of the taken transfers that are booked accepted.
abbrev pub debits : List Event → ℕ
debits J = sum_by (debit J) J
