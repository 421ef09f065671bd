-- The events that deliveries and learnings add. Follow-ups and sweeps add no other events. A choice
-- of this hub.
use Rattle.std.specs.Prelude.{◌≡◌, ◌⊎◌, List, [], ◌∷◌, ◌++◌, Contains}
use Rattle.inst_journal.specs.declared.event.Event.{Event}
use Rattle.inst_journal.specs.declared.event.Event.TheVariants.{Forwarded, Booked}

-- The event is a delivery or a booking.
abbrev pub TellsOfTransfer : Event → Type 0
TellsOfTransfer (Forwarded from id cents deadline) = Unit {0}
TellsOfTransfer (Booked from id outcome) = Unit {0}
TellsOfTransfer _ = ⊥

-- The history is unchanged, or has one such event more.
abbrev pub IsToldMore : List Event → List Event → Type 0
IsToldMore J K = (K ≡ J) ⊎ ((e : Event) × TellsOfTransfer e × (K ≡ J ++ e ∷ []))

-- The history has more events, each of which is a delivery or a booking.
abbrev pub IsToldAll : List Event → List Event → Type 0
IsToldAll J K = (more : List Event) × (K ≡ J ++ more)
    × ((e : Event) → Contains more e → TellsOfTransfer e)
