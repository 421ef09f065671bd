-- What a slot does over a board that has the model's outcomes, and what the model says that its participant sees.
use Rattle.std.proofs.Common.{◌≡◌, ℕ, Bool, true, false, not, cond, eqb, ◌&&◌, ◌||◌, ◌==◌, List, [], ◌∷◌, Option, Some, None, is_none, is_some, refl, sym, ap, subst, ◌∙◌, inl, inr}
use Rattle.std.proofs.lemmas.Bool.{ne_eqb, true≢false, cases_eq}
use Rattle.inst_settings.specs.Settings.{HubSettings}
use Rattle.inst_command.specs.declared.entry.Entry.{Entry}
use Rattle.inst_command.specs.declared.outcome.Outcome.{Outcome}
use Rattle.inst_command.specs.declared.place.Place.{Place}
use Rattle.inst_board.specs.Standing.{Standing, look_of}
use Rattle.inst_journal.specs.declared.event.Event.TheVariants.{Booked}
use Rattle.inst_journal.specs.Booked.{booked, is_forwarded}
use Rattle.inst_model.specs.Transfer.{Transfer, deadline}
use Rattle.inst_model.specs.View.{Seen, comes, news, tells}
use Rattle.inst_model.specs.View.Seen.{Came}
use Rattle.inst_model.specs.Kept.{with_entries}
use Rattle.inst_model.specs.Trace.{is_some_entry}
use Rattle.inst_model.proofs.TextsTestsAndFirstThings.{eqb_refl}
use Rattle.inst_slot.specs.Book.{Book, place_at, arrived_at, is_at}
use Rattle.inst_slot.specs.Telling.{delivery, with_delivery, is_party, resolution, with_event, booking}
use Rattle.inst_world.specs.HasRun.{StandsWith, StandsFor, terms_of}

-- what is seen makes this book's history, and there is something exactly if this is said
pub record Adds (s : HubSettings) (book : Book) (V : List Seen) (new : Book) (is_new : Bool) : Type 0 where
  pub events : new.events ≡ with_entries s book.who book.events V
  pub is_new_is : is_new ≡ is_some_entry V

adds_nothing : (s : HubSettings) (book : Book) → Adds s book [] book false
adds_nothing s book = record { events = refl; is_new_is = refl }

-- what comes

comes_or_not : (s : HubSettings) (book : Book) (k : Place) (e : Entry) (a c : Bool)
    → Adds s book (cond (a && true && c) (Came e.from e.id e.cents e.deadline ∷ []) []) (with_delivery book k (cond (a && c) (Some e) None)) (is_some (cond (a && c) (Some e) None))
comes_or_not s book k e true true = record { events = refl; is_new_is = refl }
comes_or_not s book k e true false = adds_nothing s book
comes_or_not s book k e false true = adds_nothing s book
comes_or_not s book k e false false = adds_nothing s book

comes_decided : (s : HubSettings) (book : Book) (V : List Seen) (a c : Bool) → Adds s book (cond (a && false && c) V []) book false
comes_decided s book V true true = adds_nothing s book
comes_decided s book V true false = adds_nothing s book
comes_decided s book V false true = adds_nothing s book
comes_decided s book V false false = adds_nothing s book

comes_by : (s : HubSettings) (book : Book) (from index : ℕ) (x : Transfer) (o : Option Outcome) (p : Standing) → StandsWith (terms_of x) (deadline s x) o p
    → Adds s book (cond ((x.to == book.who) && is_none o && not (is_forwarded from x.id book.events)) (Came from x.id x.cents (deadline s x) ∷ []) [])
    (with_delivery book (place_at from index) (delivery book (place_at from index) (look_of p))) (is_some (delivery book (place_at from index) (look_of p)))
comes_by s book from index x None p is =
    subst (λ (q : Standing). Adds s book (cond ((x.to == book.who) && true && not (is_forwarded from x.id book.events)) (Came from x.id x.cents (deadline s x) ∷ []) [])
    (with_delivery book (place_at from index) (delivery book (place_at from index) (look_of q))) (is_some (delivery book (place_at from index) (look_of q)))) (sym is)
    (comes_or_not s book (place_at from index) (record { from = from; id = x.id; cents = x.cents; deadline = deadline s x }) (x.to == book.who) (not (is_forwarded from x.id book.events)))
comes_by s book from index x (Some z) p is =
    subst (λ (q : Standing). Adds s book (cond ((x.to == book.who) && false && not (is_forwarded from x.id book.events)) (Came from x.id x.cents (deadline s x) ∷ []) [])
    (with_delivery book (place_at from index) (delivery book (place_at from index) (look_of q))) (is_some (delivery book (place_at from index) (look_of q)))) (sym is.1)
    (comes_decided s book (Came from x.id x.cents (deadline s x) ∷ []) (x.to == book.who) (not (is_forwarded from x.id book.events)))

-- a delivery does what the model says
pub delivery_comes : (s : HubSettings) (outcomes : ℕ → List ℕ → Option Outcome) (book : Book) (from index : ℕ) (X : Option Transfer) (p : Standing) → StandsFor s (outcomes from) X p
    → Adds s book (comes s outcomes from book.who book.events X) (with_delivery book (place_at from index) (delivery book (place_at from index) (look_of p))) (is_some (delivery book (place_at from index) (look_of p)))
delivery_comes s outcomes book from index None p is =
    subst (λ (q : Standing). Adds s book [] (with_delivery book (place_at from index) (delivery book (place_at from index) (look_of q))) (is_some (delivery book (place_at from index) (look_of q)))) (sym is) (adds_nothing s book)
delivery_comes s outcomes book from index (Some x) p is = comes_by s book from index x (outcomes from x.id) p is

-- what is told

tells_or_not : (s : HubSettings) (book : Book) (from : ℕ) (id : List ℕ) (z : Outcome) (c : Bool) (before : Option Outcome)
    → Adds s book (cond c (news from id (Some z) before) []) (with_event book (cond (c && is_none before) (Some (Booked from id z)) None)) (is_some (cond (c && is_none before) (Some (Booked from id z)) None))
tells_or_not s book from id z true None = record { events = refl; is_new_is = refl }
tells_or_not s book from id z true (Some y) = adds_nothing s book
tells_or_not s book from id z false before = adds_nothing s book

no_news : (s : HubSettings) (book : Book) (c : Bool) → Adds s book (cond c [] []) book false
no_news s book true = adds_nothing s book
no_news s book false = adds_nothing s book

swapped : (a b : ℕ) → eqb a b ≡ eqb b a
swapped a b = elim (cases_eq a b) [
  | inl same ↦ ap (λ n. eqb n b) same ∙ ap (λ n. eqb b n) (sym same)
  | inr other ↦ ne_eqb a b other ∙ sym (ne_eqb b a (λ e. other (sym e)))
]

tells_by : (s : HubSettings) (book : Book) (from index : ℕ) (x : Transfer) (o : Option Outcome) (p : Standing) → StandsWith (terms_of x) (deadline s x) o p
    → is_at index (arrived_at from x.id book.arrivals) ≡ is_forwarded from x.id book.events
    → Adds s book (cond ((book.who == from) || is_forwarded from x.id book.events) (news from x.id o (booked from x.id book.events)) [])
    (with_event book (resolution book (place_at from index) (look_of p))) (is_some (resolution book (place_at from index) (look_of p)))
tells_by s book from index x None p is party =
    subst (λ (q : Standing). Adds s book (cond ((book.who == from) || is_forwarded from x.id book.events) [] [])
    (with_event book (resolution book (place_at from index) (look_of q))) (is_some (resolution book (place_at from index) (look_of q)))) (sym is)
    (no_news s book ((book.who == from) || is_forwarded from x.id book.events))
tells_by s book from index x (Some z) p is party =
    let same : is_party book (place_at from index) x.id ≡ ((book.who == from) || is_forwarded from x.id book.events) =
    ap (λ (b : Bool). b || is_at index (arrived_at from x.id book.arrivals)) (swapped from book.who) ∙ ap (λ (b : Bool). (book.who == from) || b) party in
    let before : Option Outcome = booked from x.id book.events in
    subst (λ (q : Standing). Adds s book (cond ((book.who == from) || is_forwarded from x.id book.events) (news from x.id (Some z) before) [])
    (with_event book (resolution book (place_at from index) (look_of q))) (is_some (resolution book (place_at from index) (look_of q)))) (sym is.1)
    (subst (λ (c : Bool). Adds s book (cond c (news from x.id (Some z) before) [])
    (with_event book (cond (is_party book (place_at from index) x.id && is_none before) (Some (Booked from x.id z)) None)) (is_some (cond (is_party book (place_at from index) x.id && is_none before) (Some (Booked from x.id z)) None))) same
    (tells_or_not s book from x.id z (is_party book (place_at from index) x.id) before))

-- a resolution does what the model says
pub resolution_tells : (s : HubSettings) (outcomes : ℕ → List ℕ → Option Outcome) (book : Book) (from index : ℕ) (X : Option Transfer) (p : Standing) → StandsFor s (outcomes from) X p
    → ((x : Transfer) → X ≡ Some x → is_at index (arrived_at from x.id book.arrivals) ≡ is_forwarded from x.id book.events)
    → Adds s book (tells outcomes from book.who book.events X) (with_event book (resolution book (place_at from index) (look_of p))) (is_some (resolution book (place_at from index) (look_of p)))
resolution_tells s outcomes book from index None p is party =
    subst (λ (q : Standing). Adds s book [] (with_event book (resolution book (place_at from index) (look_of q))) (is_some (resolution book (place_at from index) (look_of q)))) (sym is) (adds_nothing s book)
resolution_tells s outcomes book from index (Some x) p is party = tells_by s book from index x (outcomes from x.id) p is (party x refl)

-- what an expiry books

pub expiry_tells : (s : HubSettings) (book : Book) (id : List ℕ) (found before : Option Outcome) → before ≡ None
    → Adds s book (cond ((book.who == book.who) || is_forwarded book.who id book.events) (news book.who id found before) []) (with_event book (booking book.who id found)) (is_some found)
expiry_tells s book id found before none = go found (book.who == book.who) (eqb_refl book.who)
  where
    go : (f : Option Outcome) (c : Bool) → c ≡ true → Adds s book (cond (c || is_forwarded book.who id book.events) (news book.who id f before) []) (with_event book (booking book.who id f)) (is_some f)
    go None true e = subst (λ (o : Option Outcome). Adds s book (news book.who id None o) book false) (sym none) (adds_nothing s book)
    go (Some z) true e = subst (λ (o : Option Outcome). Adds s book (news book.who id (Some z) o) (with_event book (Some (Booked book.who id z))) true) (sym none) (record { events = refl; is_new_is = refl })
    go f false e = absurd (true≢false (sym e))
