-- Opening a hub again: each participant is behind its lock, with its journal and an opening.
use Rattle.std.specs.Prelude.{◌≡◌, ℕ, List, [], ◌∷◌, ◌++◌, length, slice_get, Option, Some}
use Rattle.inst_settings.specs.Settings.{HubSettings, participants}
use Rattle.inst_journal.specs.declared.event.Event.{Event}
use Rattle.inst_journal.specs.declared.event.Event.TheVariants.{Opened}
use Rattle.inst_slot.specs.Book.{Book}
use Rattle.inst_cell.specs.declared.shared_board.SharedBoard.{SharedBoard}
use Rattle.inst_participant.specs.declared.participant.Participant.{Participant}

-- The book of participant p, carried over an opening.
pub record IsCarriedBook (s : HubSettings) (books : ℕ →
    List Event) (p : ℕ) (book : Book) : Type 0 where
  pub settings_are : book.settings ≡ s
  pub who_is : book.who ≡ p
  pub events_are : book.events ≡ books p ++ Opened ∷ []

-- The books of all participants, by number.
pub record AreCarriedSlots (s : HubSettings) (books : ℕ → List Event)
    (slots : List Book) : Type 0 where
  pub enough : length slots ≡ participants s
  pub each : (p : ℕ) (book : Book) → slice_get slots p ≡ Some book → IsCarriedBook s books p book

-- Each value of the first list with that of the second at the same position.
abbrev pub pairs : {A B C : Type 0} → (A → B → C) → List A → List B → List (Option C)
pairs pair [] ys = []
pairs pair (x ∷ xs) [] = []
pairs pair (x ∷ xs) (y ∷ ys) = Some (pair x y) ∷ pairs pair xs ys

-- The participant with this slot and this board.
abbrev pub seated : Book → SharedBoard → Participant
seated slot board = record { slot = slot; board = board }
