-- A transfer between two participants, as its originator's history has it (EPC004-16, chapter 4,
-- attributes: the originator's reference, the amount, and the time stamp from which the time limit
-- counts). Its originator and its identifier name it. Its place, counted from 0 over the
-- originator's live transfers, names it too. The last is a choice of this hub.
use Rattle.std.specs.Prelude.{ℕ, Bool, false, if◌then◌else◌, List, Option, Some, None, slice_get}
use Rattle.std.specs.List.{filter, filter_map}
use Rattle.inst_base.specs.TimeLimit.{deadline_of}
use Rattle.inst_settings.specs.Settings.{HubSettings, same_text}
use Rattle.inst_journal.specs.declared.event.Event.{Event}
use Rattle.inst_journal.specs.declared.event.Event.TheVariants.{Taken}
use Rattle.inst_journal.specs.Booked.{first_some}
use Rattle.inst_journal.specs.Opened.{is_live}

-- The terms of a transfer: identifier, beneficiary, cents, time stamp.
pub record Transfer : Type 0 where
  pub id : List ℕ
  pub to : ℕ
  pub cents : ℕ
  pub stamp : ℕ

-- The transfer that the event takes.
abbrev pub terms : Event → Option Transfer
terms (Taken id to cents stamp) = Some (record { id = id; to = to; cents = cents; stamp = stamp })
terms _ = None

-- The transfer that the event takes, if it has this identifier.
abbrev pub terms_named : List ℕ → Event → Option Transfer
terms_named id (Taken other to cents stamp) =
    if same_text other id then Some (record { id = other; to = to; cents = cents; stamp = stamp })
    else None
terms_named id _ = None

-- The transfers that an originator's history has taken, in order.
abbrev pub transfers : List Event → List Transfer
transfers J = filter_map terms J

-- Those that the originator `who` hadn't booked before the last Opened, in the order of their
-- places.
abbrev pub live_transfers : ℕ → List Event → List Transfer
live_transfers who J = filter (λ x. is_live who x.id J) (transfers J)

-- The live transfer at this place of the originator `who`.
abbrev pub at_place : ℕ → List Event → ℕ → Option Transfer
at_place who J index = slice_get (live_transfers who J) index

-- The transfer with this identifier in an originator's history.
abbrev pub transfer : List ℕ → List Event → Option Transfer
transfer id J = first_some (terms_named id) J

-- The end of the time limit.
abbrev pub deadline : HubSettings → Transfer → ℕ
deadline s x = deadline_of s.limit x.stamp

-- True if there is a transfer and it has this identifier.
abbrev pub is_named : List ℕ → Option Transfer → Bool
is_named id None = false
is_named id (Some x) = same_text x.id id
