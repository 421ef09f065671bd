-- What the originator's books tell of a place is what all books tell of it.
use Rattle.std.proofs.Common.{◌≡◌, List, Some, None, ap, sym, ◌∙◌}
use Rattle.std.specs.Prelude.{slice_get}
use Rattle.inst_command.specs.declared.outcome.State.{State}
use Rattle.inst_command.specs.declared.outcome.State.TheVariants.{Unused}
use Rattle.inst_command.specs.declared.place.Place.{Place}
use Rattle.inst_journal.specs.declared.event.Event.{Event}
use Rattle.inst_slot.specs.Book.{events_of, Book}
use Rattle.inst_slot.specs.OwnState.{own_state}
use Rattle.inst_participant.specs.Together.{histories}
use Rattle.inst_participant.specs.InTheBooks.{state_in_books}

pub told_at : (books : List Book) (k : Place) (book : Book) (r : State) → slice_get books k.owner ≡ Some book → r ≡ own_state k.owner book.events k.index → r ≡ state_in_books (histories books) k
told_at books k book r found said = said ∙ sym (ap (λ (J : List Event). own_state k.owner J k.index) (ap events_of found))

pub untold_at : (books : List Book) (k : Place) → slice_get books k.owner ≡ None → Unused ≡ state_in_books (histories books) k
untold_at books k none = sym (ap (λ (J : List Event). own_state k.owner J k.index) (ap events_of none))
