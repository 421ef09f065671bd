-- What isn't in the table teaches nothing, and what a look shows decided at a place of the participant's own lies there.
use Rattle.std.proofs.Common.{◌≡◌, ℕ, Bool, false, ◌||◌, ◌&&◌, ◌==◌, cond, List, ⊎_elim, sym, ap, ◌∙◌, Option, Some, None, is_none, is_some}
use Rattle.std.proofs.lemmas.Bool.{true≢false, eqb-true, cases_Bool}
use Rattle.inst_command.specs.declared.outcome.Outcome.{Outcome}
use Rattle.inst_terms.specs.declared.terms.Terms.{Terms}
use Rattle.inst_command.specs.declared.place.Place.{Place}
use Rattle.inst_board.specs.declared.look.Look.TheVariants.{Decided as LookDecided}
use Rattle.inst_journal.specs.declared.event.Event.{Event}
use Rattle.inst_journal.specs.declared.event.Event.TheVariants.{Booked}
use Rattle.inst_journal.specs.Booked.{is_taken, booked}
use Rattle.inst_journal.specs.Opened.{carried}
use Rattle.inst_ledger.specs.Book.{BookAndRoom}
use Rattle.inst_ledger.specs.Right.{IsRight, sending_in}
use Rattle.inst_ledger.proofs.OwnIds.{own_taken_only}
use Rattle.inst_ledger.proofs.Tables.{taken_found}
use Rattle.inst_transfers.specs.declared.transfer.Transfer.{Transfer}
use Rattle.inst_transfers.specs.Held.{state_in, found_at}
use Rattle.inst_slot.specs.declared.arrivals.Spot.{Spot}
use Rattle.inst_slot.specs.inner.Answering.{book_with_spots, IsOwnAt}
use Rattle.inst_slot.specs.Book.{arrived_at, is_at}
use Rattle.inst_slot.specs.Spots.{rows_of, arrivals_of, AreSpots}
use Rattle.inst_slot.specs.Telling.{is_party, resolution}
use Rattle.inst_slot.proofs.Spots.{unknown_here}

pub no_resolution : (l : BookAndRoom) (S : List Spot) (k : Place) (t : Terms) (o : Outcome) → IsRight l.book.who l.book.events (state_in l.table) → AreSpots (rows_of l.book.who l.book.events) S
    → (k.owner ≡ l.book.who → IsOwnAt l.book t.id k) → found_at l.table.entries (k.owner, t.id) ≡ None → resolution (book_with_spots l.book S) k (LookDecided t o) ≡ None
no_resolution l S k t o right are own none =
    let J : List Event = l.book.events in
    let rows = rows_of l.book.who J in
    let stranger : (k.owner == l.book.who) ≡ false = ⊎_elim
    (λ yes.
    let mine : k.owner ≡ l.book.who = eqb-true k.owner l.book.who yes in
    let there : (state_in l.table).found (l.book.who, t.id) ≡ None = ap (λ (n : ℕ). found_at l.table.entries (n, t.id)) (sym mine) ∙ none in
    let unknown : is_taken t.id J ≡ false = taken_found t.id J ∙ ap is_some (sym (right.taken t.id)) ∙ ap (λ (x : Option Transfer). is_some (sending_in x)) there in
    absurd (true≢false (sym (own_taken_only l.book.who (carried J) t.id J k.index (own mine).at) ∙ unknown)))
    (λ no. no)
    (cases_Bool (k.owner == l.book.who)) in
    let party : is_party (book_with_spots l.book S) k t.id ≡ false =
    ap (λ (b : Bool). b || is_at k.index (arrived_at k.owner t.id (arrivals_of rows S))) stranger
    ∙ ap (is_at k.index) (unknown_here l.table.entries rows S right.rows are k.owner t.id none) in
    ap (λ (b : Bool). cond {A = Option Event} (b && is_none (booked k.owner t.id J)) (Some (Booked k.owner t.id o)) None) party
