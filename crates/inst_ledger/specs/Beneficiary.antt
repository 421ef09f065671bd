-- The beneficiary of a participant's own transfer, by its identifier. Storing it in the history is
-- a choice of this hub.
use Rattle.std.specs.Prelude.{ℕ, if◌then◌else◌, List, Option, Some, None}
use Rattle.inst_settings.specs.Settings.{same_text}
use Rattle.inst_journal.specs.declared.event.Event.{Event}
use Rattle.inst_journal.specs.declared.event.Event.TheVariants.{Taken}
use Rattle.inst_journal.specs.Booked.{first_some}

-- The beneficiary of the submission that the event takes, if it has this identifier.
abbrev pub takes_to : List ℕ → Event → Option ℕ
takes_to id (Taken other to cents stamp) = if same_text other id then Some to else None
takes_to id _ = None

-- The beneficiary of the taken submission with this identifier, if there is one.
abbrev pub beneficiary_of : List ℕ → List Event → Option ℕ
beneficiary_of id J = first_some (takes_to id) J
