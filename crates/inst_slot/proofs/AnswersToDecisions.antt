-- What a decision of a command keeps and answers, by what the board makes of it.
use Rattle.std.proofs.Common.{◌≡◌, ℕ, List, ◌++◌, ⊎_elim, inl, sym, ap, ◌∙◌, subst, Option, None}
use Rattle.std.specs.Prelude.{Result}
use Rattle.std.proofs.lemmas.Bool.{true≢false, cases_Bool}
use Rattle.inst_base.specs.declared.fault.Fault.{Fault}
use Rattle.inst_settings.specs.Settings.{HubSettings}
use Rattle.inst_command.specs.declared.ask.Ask.{Ask}
use Rattle.inst_command.specs.declared.outcome.Outcome.{Outcome}
use Rattle.inst_command.specs.declared.reply.Reply.{Reply}
use Rattle.inst_command.specs.declared.place.Place.{Place}
use Rattle.inst_board.specs.declared.about.Fact.{Fact}
use Rattle.inst_journal.specs.declared.event.Event.{Event}
use Rattle.inst_journal.specs.declared.event.Event.TheVariants.{Booked}
use Rattle.inst_journal.specs.Booked.{is_forwarded}
use Rattle.inst_journal.specs.Reply.{state_reply, reply_result, kept_event, kept_events}
use Rattle.inst_journal.specs.Sound.{IsSound, Fits}
use Rattle.inst_journal.proofs.OwnBookings.{own_unforwarded}
use Rattle.inst_ledger.specs.Book.{LedgerBook as Kept, BookAndRoom}
use Rattle.inst_slot.specs.declared.arrival.Arrival.{Arrival}
use Rattle.inst_slot.specs.declared.answering.Request.{Request}
use Rattle.inst_slot.specs.inner.Answering.{book_with_arrivals, decided_id, is_expiry, pending_for, IsAsking, IsOwnAt}
use Rattle.inst_slot.specs.Book.{Book, place_at}
use Rattle.inst_slot.specs.Asking.{request, handle_ask, Settles, Finds}
use Rattle.inst_slot.specs.LawfulBoard.{IsLawfulBoard}
use Rattle.inst_slot.specs.Telling.{booking}
use Rattle.inst_slot.proofs.SlotMayDecideWhatIsAsked.{asked}
use Rattle.inst_slot.proofs.ResolutionFitsBooks.{booking_fits}

module _ {B : Type 0} (settings : B → HubSettings) (knows : B → Fact → Type 0) (has_role : B → ℕ → Type 0) (b : B) (l : BookAndRoom) (A : List Arrival) (ask : Ask) (r : Request)
    (was : IsLawfulBoard settings knows has_role b (book_with_arrivals l.book A)) (asking : IsAsking l (request (book_with_arrivals l.book A) ask.command) (decided_id ask.command) r) where
  -- what is asked, by what was found
  same_id : (asked settings knows has_role b (book_with_arrivals l.book A) ask.command (r.place, r.wish) was asking.is).id ≡ r.found.id
  same_id = (asked settings knows has_role b (book_with_arrivals l.book A) ask.command (r.place, r.wish) was asking.is).id_is ∙ sym asking.id_is

  pub settle_fits : (o : Outcome) → Fits l.book.settings l.book.who l.book.events (Booked r.found.from r.found.id o)
  settle_fits o =
      let a = asked settings knows has_role b (book_with_arrivals l.book A) ask.command (r.place, r.wish) was asking.is in
      subst (λ (n : ℕ). Fits l.book.settings l.book.who l.book.events (Booked n r.found.id o)) (sym asking.owner)
      (subst (λ (i : List ℕ). Fits l.book.settings l.book.who l.book.events (Booked r.place.owner i o)) same_id
      (booking_fits settings knows has_role b (book_with_arrivals l.book A) r.place.owner a.id r.place.index o was a.lies a.none))

  -- it is answered so, and this is kept
  pub settled_so : (margin : ℕ) (stood : B → Place → Outcome → Type 0) (stays : B → B → Type 0) (c : B) (found : Option Outcome) (result : Result Reply Fault) (new : Kept)
      → result ≡ reply_result (state_reply r.found.from r.found.id (pending_for r.wish r.found.from r.found.id) None found)
      → new ≡ record l.book { events = l.book.events ++ kept_event (booking r.found.from r.found.id found) }
      → Finds margin knows has_role stood stays b r.place r.wish ask.at found c → (after : Book) → after ≡ book_with_arrivals new A
      → Settles margin knows has_role stood stays b (book_with_arrivals l.book A) ask r.place r.wish result c after
  settled_so margin stood stays c found result new answer kept f after is =
      let a = asked settings knows has_role b (book_with_arrivals l.book A) ask.command (r.place, r.wish) was asking.is in
      let whole : handle_ask (book_with_arrivals l.book A) ask found ≡ state_reply r.found.from r.found.id (pending_for r.wish r.found.from r.found.id) None found =
      a.answered ask.at found ∙ ap (λ (i : List ℕ). state_reply r.place.owner i (pending_for r.wish r.place.owner i) None found) same_id
      ∙ ap (λ (n : ℕ). state_reply n r.found.id (pending_for r.wish n r.found.id) None found) (sym asking.owner) in
      let events : kept_events (handle_ask (book_with_arrivals l.book A) ask found) ≡ kept_event (booking r.found.from r.found.id found) =
      a.kept ask.at found ∙ ap (λ (i : List ℕ). kept_event (booking r.place.owner i found)) same_id ∙ ap (λ (n : ℕ). kept_event (booking n r.found.id found)) (sym asking.owner) in
      inl (found, answer ∙ sym (ap reply_result whole), is ∙ ap (λ (x : Kept). book_with_arrivals x A) kept ∙ ap (λ (K : List Event). book_with_arrivals (record l.book { events = l.book.events ++ K }) A) (sym events), f)

  -- where it is the participant's own, it lies at the place that is asked for
  pub settle_own : IsSound l.book.settings l.book.who l.book.events → r.found.from ≡ l.book.who → IsOwnAt l.book r.found.id (place_at r.found.from r.place.index)
  settle_own sound mine = ⊎_elim
      (λ yes.
      subst (λ (i : List ℕ). IsOwnAt l.book i (place_at r.found.from r.place.index)) (sym asking.id_is)
      (subst (λ (n : ℕ). IsOwnAt l.book (decided_id ask.command) (place_at n r.place.index)) (sym asking.owner) (asking.expiring yes)))
      (λ no.
      let a = asked settings knows has_role b (book_with_arrivals l.book A) ask.command (r.place, r.wish) was asking.is in
      absurd (true≢false (sym (a.answers no)
      ∙ ap (λ (n : ℕ). is_forwarded n a.id l.book.events) (sym asking.owner ∙ mine) ∙ own_unforwarded l.book.settings l.book.who a.id l.book.events sound)))
      (cases_Bool (is_expiry r.wish))
