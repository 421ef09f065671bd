-- What a hub that is taken apart leaves: histories that its tellers have seen, or the hub
-- unchanged. A choice of this hub.
use Rattle.std.specs.Prelude.{◌≡◌, ℕ, ◌<◌, List, slice_get, Some}
use mathlib.Core.List.{IsPrefix}
use Rattle.inst_settings.specs.Settings.{HubSettings, participants}
use Rattle.inst_board.specs.declared.about.Fact.{Fact}
use Rattle.inst_cell.specs.Held.{knows}
use Rattle.inst_journal.specs.declared.event.Event.{Event}
use Rattle.inst_row.specs.Seated.{HasSeen}
use Rattle.inst_participant.specs.declared.parts.Parts.{Parts}
use Rattle.inst_participant.specs.Apart.{histories_of, board_of}
use Rattle.inst_hub.specs.declared.teller.Teller.{Teller}
use Rattle.inst_hub.specs.declared.hub.Hub.{Hub}
use Rattle.inst_hub.specs.Calls.{knows_of}
use Rattle.inst_hub.specs.declared.hub.closing.TakeFault.{TakeFault}
use Rattle.inst_hub.specs.declared.hub.closing.TakeFault.TheVariants.{Memory}

-- One of these tellers has seen this prefix of participant p's history.
abbrev pub OneHasSeen : List Teller → ℕ → List Event → Type 0
OneHasSeen tellers p h =
    (i : ℕ) × (t : Teller) × (slice_get tellers i ≡ Some t) × HasSeen p h t.seat

-- All that the tellers of a hub with these settings had seen is in its parts.
-- - goes_on: each history extends all that a teller has seen of it.
-- - last: a teller has seen each history to its end.
-- - knows: the board knows what each teller knew.
pub record HaveWhatWasSeen (s : HubSettings) (tellers : List Teller) (parts : Parts) : Type 0 where
  pub goes_on : (i : ℕ) (t : Teller) (p : ℕ) (h : List Event) → slice_get tellers i ≡ Some t →
      p < participants s → HasSeen p h t.seat → IsPrefix h (histories_of parts p)
  pub last : (p : ℕ) → p < participants s → OneHasSeen tellers p (histories_of parts p)
  pub knows : (i : ℕ) (t : Teller) (f : Fact) → slice_get tellers i ≡ Some t → knows_of t f →
      knows (board_of parts) f

-- The hub and its tellers, unchanged.
abbrev pub HandsBack : Hub → List Teller → TakeFault → Type 0
HandsBack h tellers (Memory hub handed) = (hub ≡ h) × (handed.items ≡ tellers)
