-- Taking a hub apart: its tellers are on its row, and what is taken out of the locks is what they
-- protected.
use Rattle.std.specs.Prelude.{◌≡◌, ℕ, List, length, slice_get, Some}
use Rattle.atomic_table.specs.Seated.{TableId}
use Rattle.inst_hub.specs.declared.initial_state.InitialState.{InitialState}
use Rattle.inst_cell.specs.declared.shared_board.SharedBoard.{SharedBoard}
use Rattle.inst_journal.specs.Sound.{IsSound}
use Rattle.inst_journal.specs.declared.event.Event.{Event}
use Rattle.std.specs.Global.{Box}
use Rattle.inst_row.specs.declared.seat.RowSeat.{RowSeat}
use Rattle.inst_row.specs.Seated.{IsOn, IsFree, HasSeen, GoesOn}
use Rattle.inst_slot.specs.Book.{Book}
use Rattle.inst_participant.specs.declared.participant.Participant.{Participant}
use Rattle.inst_hub.specs.declared.teller.Teller.{Teller}
use Rattle.inst_hub.specs.Founding.{IsSince}
use Rattle.inst_hub.specs.inner.NextOpening.{seated}

-- The teller has a seat on this row, and no lock.
pub record IsSeated (id : TableId) (key : InitialState) (t : Teller) : Type 0 where
  pub on : IsOn id key t.seat
  pub free : IsFree t.seat

-- Such tellers.
abbrev pub AreSeated : TableId → InitialState → List Teller → Type 0
AreSeated id key tellers = (i : ℕ) (t : Teller) → slice_get tellers i ≡ Some t → IsSeated id key t

-- What a lock protected.
-- - goes_on, seen: the seat has seen its history, and nothing beyond it.
pub record IsTakenOut (key : InitialState) (seat : RowSeat (Box Participant) Event InitialState)
    (p : ℕ) (x : Book) (b : SharedBoard) : Type 0 where
  pub since : IsSince key p (seated x b)
  pub sound : IsSound x.settings x.who x.events
  pub goes_on : GoesOn p x.events seat
  pub seen : HasSeen p x.events seat

-- So many slots and boards, by number.
pub record AreTakenOut (key : InitialState) (n : ℕ)
    (seat : RowSeat (Box Participant) Event InitialState) (slots : List Book)
    (boards : List SharedBoard) : Type 0 where
  pub enough : (length slots ≡ n) × (length boards ≡ n)
  pub each : (p : ℕ) (x : Book) (b : SharedBoard) → slice_get slots p ≡ Some x →
      slice_get boards p ≡ Some b → IsTakenOut key seat p x b
