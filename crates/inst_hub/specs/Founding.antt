-- How a hub began: what each history carried when it opened, and carries ever after. A choice of
-- this hub.
use Rattle.std.specs.Prelude.{◌≡◌, ℕ, ◌<◌, List, [], slice_get, Option, Some, None}
use Rattle.std.specs.Global.{Box}
use Rattle.inst_settings.specs.Settings.{participants}
use Rattle.inst_journal.specs.declared.event.Event.{Event}
use Rattle.inst_journal.specs.Opened.{carried}
use Rattle.inst_model.specs.Opening.{Opening, beginning}
use Rattle.inst_row.specs.Row.{key_of}
use Rattle.inst_hub.specs.declared.hub.Hub.{Hub}
use Rattle.inst_hub.specs.declared.initial_state.InitialState.{InitialState}
use Rattle.inst_participant.specs.declared.participant.Participant.{Participant}
use Rattle.inst_participant.specs.LockLaw.{IsBehind}

-- The history of the participant in this box, if there is one.
abbrev pub history_in : Option (Option (Box Participant)) → List Event
history_in (Some (Some x)) = x.value.slot.events
history_in (Some None) = []
history_in None = []

-- What the history of participant p carried when the hub opened.
abbrev pub outset_of : InitialState → ℕ → List Event
outset_of key p = carried (history_in (slice_get key.all.value.items p))

-- x is what lock p protects in a hub that began so.
-- - carries: its history had no opening since.
pub record IsSince (key : InitialState) (p : ℕ) (x : Participant) : Type 0 where
  pub behind : IsBehind key.words.value p x
  pub carries : carried x.slot.events ≡ outset_of key p

-- The hub has this opening: each history began as it says.
abbrev pub HasOpenedHub : Opening → Hub → Type 0
HasOpenedHub O h = (p : ℕ) → p < participants h.settings →
    outset_of (key_of h.row) p ≡ beginning O p
