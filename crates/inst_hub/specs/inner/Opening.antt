-- Opening a hub: its boards, and its participants behind their locks.
use Rattle.std.specs.Prelude.{◌≡◌, ℕ, ◌<◌, List, [], ◌∷◌, length, slice_get, Option, Some, None}
use Rattle.std.specs.Global.{Box}
use Rattle.atomic_table.specs.Seated.{TableId}
use Rattle.inst_settings.specs.Settings.{HubSettings, participants}
use Rattle.inst_cell.specs.declared.shared_board.SharedBoard.{SharedBoard}
use Rattle.inst_cell.specs.declared.sight.Sight.{Sight}
use Rattle.inst_cell.specs.Opening.{IsOpened}
use Rattle.inst_journal.specs.declared.event.Event.{Event}
use Rattle.inst_participant.specs.declared.participant.Participant.{Participant}
use Rattle.inst_participant.specs.LockLaw.{IsBehind}
use Rattle.inst_hub.specs.Opening.{IsBlank}

-- The boards of all participants, by number.
pub record AreBoards (s : HubSettings) (id : TableId) (boards : List SharedBoard) : Type 0 where
  pub enough : length boards ≡ participants s
  pub each : (p : ℕ) (b : SharedBoard) → slice_get boards p ≡ Some b → IsOpened s id p b

-- The values in the boxes.
abbrev pub unboxed : List (Option (Box Participant)) → List (Option Participant)
unboxed [] = []
unboxed (None ∷ all) = None ∷ unboxed all
unboxed (Some x ∷ all) = Some x.value ∷ unboxed all

-- The participants, by number, over these words, with these histories.
pub record AreBehind (words : SharedBoard) (n : ℕ) (J : ℕ →
    List Event) (all : List (Option Participant)) : Type 0 where
  pub enough : length all ≡ n
  pub each : (p : ℕ) → p < n →
      (x : Participant) × (slice_get all p ≡ Some (Some x)) × IsBehind words p x
      × (x.slot.events ≡ J p)

-- The participants of these boards, by number, with empty histories.
pub record AreParticipants (boards : List SharedBoard) (all : List (Option Participant)) : Type 0
  where
    pub enough : length all ≡ length boards
    pub each : (p : ℕ) (b : SharedBoard) → slice_get boards p ≡ Some b →
        (x : Participant) × (slice_get all p ≡ Some (Some x)) × IsBehind b p x
        × (x.slot.events ≡ [])

-- Sights over these words that know of no place.
abbrev pub AreBlank : SharedBoard → List Sight → Type 0
AreBlank words sights = (i : ℕ) (t : Sight) → slice_get sights i ≡ Some t → IsBlank words t
