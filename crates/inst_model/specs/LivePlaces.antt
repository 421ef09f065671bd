-- The places of an originator's live transfers: there are no more live ones than places, each
-- unbooked one has a place, and within an opening the list of them grows only at its end. A promise
-- of this hub.
use Rattle.std.specs.Prelude.{◌≡◌, ℕ, ◌≤◌, List, ◌++◌, length, Some, None}
use Rattle.inst_settings.specs.Settings.{HubSettings}
use Rattle.inst_command.specs.declared.step.Step.{Step}
use Rattle.inst_journal.specs.Booked.{booked}
use Rattle.inst_model.specs.Interleaving.{IsInterleaving}
use Rattle.inst_model.specs.Opening.{Opening, IsOpening}
use Rattle.inst_model.specs.Transfer.{Transfer, transfer, live_transfers, at_place}
use Rattle.inst_model.specs.Hub.{history}

-- The live transfers of the originator p have places.
pub record HasPlaces (s : HubSettings) (O : Opening) (L : List Step) (p : ℕ) : Type 0 where
  pub few : length (live_transfers p (history s O L p)) ≤ s.places
  pub unbooked_has_one : (id : List ℕ) (x : Transfer) → transfer id (history s O L p) ≡ Some x →
      booked p id (history s O L p) ≡ None →
      (index : ℕ) × (at_place p (history s O L p) index ≡ Some x)
  pub grows_at_its_end : (later : List Step) → (new : List Transfer)
      × (live_transfers p (history s O (later ++ L) p) ≡ live_transfers p (history s O L p) ++ new)

abbrev pub TheLiveHaveTheirPlaces : Type 0
TheLiveHaveTheirPlaces =
    (s : HubSettings) (O : Opening) → IsOpening s O → (L : List Step) → IsInterleaving s L →
    (p : ℕ) → HasPlaces s O L p
