-- What a participant's books have to do with its board is kept as the board is learnt of and the history grows.
use Rattle.std.proofs.Common.{◌≡◌, ℕ, ◌<◌, ◌==◌, cond, Bool, true, false, List, [], ◌∷◌, ◌++◌, length, inl, inr, ◌⊎◌, ⊎_elim, refl, sym, ap, ◌∙◌, subst, arith, Option, Some, None}
use Rattle.std.specs.Prelude.{slice_get, Contains}
use Rattle.std.proofs.lemmas.List.Elements.{Contains-append_right}
use Rattle.std.proofs.lemmas.Bool.{and_parts, eqb-true}
use Rattle.std.specs.Cmp.Lexicographic.{same_text as text_same}
use Rattle.inst_base.specs.TimeLimit.{deadline_of}
use Rattle.inst_settings.specs.Settings.{HubSettings, same_text}
use Rattle.inst_command.specs.declared.outcome.Outcome.{Outcome}
use Rattle.inst_terms.specs.declared.terms.Terms.{Terms}
use Rattle.inst_command.specs.declared.place.Place.{Place}
use Rattle.inst_board.specs.declared.about.About.{About}
use Rattle.inst_board.specs.declared.about.About.TheVariants.{Opened, HasTerms, Due, Decided}
use Rattle.inst_board.specs.declared.about.Fact.{Fact}
use Rattle.inst_board.specs.Standing.{Standing, Says, about}
use Rattle.inst_board.specs.Laws.{KnowsOpening}
use Rattle.inst_board.specs.Learning.{Learns, IsAnswer, KnowsTruly}
use Rattle.inst_board.proofs.KnowledgeOfHolders.{learning_truly}
use Rattle.inst_journal.specs.declared.event.Event.{Event}
use Rattle.inst_journal.specs.declared.event.Event.TheVariants.{Taken, Booked}
use Rattle.inst_journal.specs.Booked.{booked, books, or_else, same_transfer}
use Rattle.inst_journal.specs.Opened.{carried, is_opening, is_live, takes_live, live_taken}
use Rattle.inst_journal.specs.Reply.{entry_of}
use Rattle.inst_journal.proofs.FirstSome.{first_some-append}
use Rattle.inst_slot.specs.declared.arrival.Arrival.{Arrival}
use Rattle.inst_slot.specs.Book.{Book, place_at, terms_to, live_inbox, arrival_index, arrived_at}
use Rattle.inst_slot.specs.LawfulBoard.{LiesAt, KnowsEnd, IsLawfulBoard}
use Rattle.inst_slot.proofs.LiveTransfersAfterEvent.{slice_get_left, live_taken_still, live_push, live_inbox_still}

-- the first arrival that has the place of this transfer
index_step : (from : ℕ) (id : List ℕ) (x : Arrival) (index : ℕ) (b : Bool) → same_transfer from id x.entry.from x.entry.id ≡ b → cond b x.index None ≡ Some index → (same_transfer from id x.entry.from x.entry.id ≡ true) × (x.index ≡ Some index)
index_step from id x index true named e = (named, e)
index_step from id x index false named e = let no : ⊥ = cc in absurd no

-- an arrival of this transfer, whose place was found at this index
pub record ArrivedAt (from : ℕ) (id : List ℕ) (index : ℕ) (A : List Arrival) : Type 0 where
  pub arrival : Arrival
  pub there : Contains A arrival
  pub from_is : arrival.entry.from ≡ from
  pub id_is : arrival.entry.id ≡ id
  pub index_is : arrival.index ≡ Some index

later_arrival : (from : ℕ) (id : List ℕ) (index : ℕ) (x : Arrival) (A : List Arrival) → ArrivedAt from id index A → ArrivedAt from id index (x ∷ A)
later_arrival from id index x A h = record {
  arrival = h.arrival;
  there = Contains-append_right (x ∷ []) A h.arrival h.there;
  from_is = h.from_is;
  id_is = h.id_is;
  index_is = h.index_is;
}

arrival_step : (from : ℕ) (id : List ℕ) (index : ℕ) (x : Arrival) (A : List Arrival) (o : Option ℕ) → arrival_index from id x ≡ o → or_else o (arrived_at from id A) ≡ Some index
    → (arrived_at from id A ≡ Some index → ArrivedAt from id index A) → ArrivedAt from id index (x ∷ A)
arrival_step from id index x A None here e rest = later_arrival from id index x A (rest e)
arrival_step from id index x A (Some i) here e rest =
    let named = index_step from id x index (same_transfer from id x.entry.from x.entry.id) refl (here ∙ e) in
    let key = and_parts (x.entry.from == from) (same_text x.entry.id id) named.0 in
    record {
      arrival = x;
      there = (0, omega arith, refl);
      from_is = eqb-true x.entry.from from key.0;
      id_is = text_same x.entry.id id (sym key.1);
      index_is = named.1;
    }

pub arrival_at : (from : ℕ) (id : List ℕ) (index : ℕ) (A : List Arrival) → arrived_at from id A ≡ Some index → ArrivedAt from id index A
arrival_at from id index [] e = let no : ⊥ = cc in absurd no
arrival_at from id index (x ∷ A) e = arrival_step from id index x A (arrival_index from id x) refl e (λ f. arrival_at from id index A f)

pub arrived_still : (from : ℕ) (id : List ℕ) (index : ℕ) (A : List Arrival) (x : Arrival) → arrived_at from id A ≡ Some index → arrived_at from id (A ++ x ∷ []) ≡ Some index
arrived_still from id index A x e = first_some-append (arrival_index from id) A (x ∷ []) ∙ ap (λ (o : Option ℕ). or_else o (arrived_at from id (x ∷ []))) e

-- a transfer lies where it lay after an arrival
pub lies_with_arrival : (book : Book) (K : List Event) (x : Arrival) (from : ℕ) (id : List ℕ) (index : ℕ) → live_taken book.who K ≡ live_taken book.who book.events → LiesAt book from id index
    → LiesAt (record book { events = K; arrivals = book.arrivals ++ x ∷ [] }) from id index
lies_with_arrival book K x from id index same lies = ⊎_elim
    (λ own. inl (
      own.0,
      record {
        to = own.1.to;
        cents = own.1.cents;
        stamp = own.1.stamp;
        there = ap (λ (l : List Event). slice_get l index) same ∙ own.1.there;
      },
    ))
    (λ arrived. inr (arrived_still from id index book.arrivals x arrived)) lies

-- an event that takes and forwards nothing leaves the transfers
pub record SameTransfers (who : ℕ) (J K : List Event) : Type 0 where
  pub taken : live_taken who K ≡ live_taken who J
  pub inbox : live_inbox K ≡ live_inbox J
  pub live : (from : ℕ) (id : List ℕ) → is_live from id K ≡ is_live from id J

pub same_transfers : (who : ℕ) (J : List Event) → SameTransfers who J J
same_transfers who J = record { taken = refl; inbox = refl; live = λ from id. refl }

pub same_after : (who : ℕ) (J : List Event) (e : Event) → is_opening e ≡ false → takes_live who (carried J) e ≡ false → entry_of e ≡ None → SameTransfers who J (J ++ e ∷ [])
same_after who J e other taken forwarded = record {
  taken = live_taken_still who J e other taken;
  inbox = live_inbox_still J e other forwarded;
  live = λ from id. live_push from id J e other;
}

abbrev pub with_events : Book → List Event → Book
with_events book K = record book { events = K }

lies_still : (book : Book) (K : List Event) (from : ℕ) (id : List ℕ) (index : ℕ) → live_taken book.who K ≡ live_taken book.who book.events → LiesAt book from id index → LiesAt (with_events book K) from id index
lies_still book K from id index same lies = ⊎_elim
    (λ own. inl (
      own.0,
      record {
        to = own.1.to;
        cents = own.1.cents;
        stamp = own.1.stamp;
        there = ap (λ (l : List Event). slice_get l index) same ∙ own.1.there;
      },
    ))
    (λ arrived. inr arrived) lies

pub lies_after_taking : (book : Book) (e : Event) (from : ℕ) (id : List ℕ) (index : ℕ) → live_taken book.who (book.events ++ e ∷ []) ≡ live_taken book.who book.events ++ e ∷ [] → LiesAt book from id index
    → LiesAt (with_events book (book.events ++ e ∷ [])) from id index
lies_after_taking book e from id index more lies = ⊎_elim
    (λ own. inl (
      own.0,
      record {
        to = own.1.to;
        cents = own.1.cents;
        stamp = own.1.stamp;
        there = ap (λ (l : List Event). slice_get l index) more ∙ slice_get_left (live_taken book.who book.events) e (Taken id own.1.to own.1.cents own.1.stamp) index own.1.there;
      },
    ))
    (λ arrived. inr arrived) lies

-- the transfer and the outcome that an event books
pub booked_key : (other : ℕ) (name : List ℕ) (from : ℕ) (id : List ℕ) (z o : Outcome) → books other name (Booked from id z) ≡ Some o → (from ≡ other) × (id ≡ name) × (z ≡ o)
booked_key other name from id z o e = go (same_transfer other name from id) refl e
  where
    go : (b : Bool) → same_transfer other name from id ≡ b → cond b (Some z) None ≡ Some o → (from ≡ other) × (id ≡ name) × (z ≡ o)
    go true same f =
        let key = and_parts (from == other) (same_text id name) same in
        let outcome : z ≡ o = cc in
        (eqb-true from other key.0, text_same id name (sym key.1), outcome)
    go false same f = let no : ⊥ = cc in absurd no

module _ {B : Type 0} (settings : B → HubSettings) (knows : B → Fact → Type 0) (has_role : B → ℕ → Type 0) where
  pub kept_opening : (b c : B) → ((f : Fact) → knows b f → knows c f) → (k : Place) (t : Terms) (d : ℕ) → KnowsOpening knows b k t d → KnowsOpening knows c k t d
  kept_opening b c kept k t d h = record {
    opened = kept (about k Opened) h.opened;
    terms = kept (about k (HasTerms t)) h.terms;
    due = kept (about k (Due d)) h.due;
  }

  -- from the board b to the board c no own place was opened, and the history grew to K by events that take and forward
  -- nothing
  pub moved : (b c : B) (book : Book) (K : List Event) → settings c ≡ settings b → ((j : Place) → KnowsTruly book.settings.margin knows c j) → (has_role b book.who → has_role c book.who)
      → ((f : Fact) → knows b f → knows c f)
      → ((index : ℕ) → knows c (about (place_at book.who index) Opened) → knows b (about (place_at book.who index) Opened))
      → SameTransfers book.who book.events K
      → ((from : ℕ) (id : List ℕ) (o : Outcome) → booked from id K ≡ Some o → (booked from id book.events ≡ Some o) ⊎ KnowsEnd knows c book from id o)
      → ((k : Place) (t : Terms) (o : Outcome) → t.to ≡ book.who → IsAnswer o → knows c (about k (HasTerms t)) → knows c (about k (Decided o)) → booked k.owner t.id K ≡ Some o)
      → IsLawfulBoard settings knows has_role b book → IsLawfulBoard settings knows has_role c (with_events book K)
  moved b c book K same_settings truly role kept own same news answers was = record {
    same_settings = same_settings ∙ was.same_settings;
    role = role was.role;
    truly = truly;
    taken_known = λ index id to cents stamp e.
        kept_opening b c kept (place_at book.who index) (terms_to to cents id) (deadline_of book.settings.limit stamp)
        (was.taken_known index id to cents stamp (ap (λ (l : List Event). slice_get l index) (sym same.taken) ∙ e));
    only_taken = λ index kn. subst (λ (l : List Event). index < length l) (sym same.taken) (was.only_taken index (own index kn));
    arrived = was.arrived ∙ sym same.inbox;
    forwarded_known = λ x index there is.
        kept_opening b c kept (place_at x.entry.from index) (terms_to book.who x.entry.cents x.entry.id) x.entry.deadline (was.forwarded_known x index there is);
    booked_known = λ from id o e live. ⊎_elim
        (λ old.
        let end = was.booked_known from id o old (sym (same.live from id) ∙ live) in
        record {
          index = end.index;
          lies = lies_still book K from id end.index same.taken end.lies;
          known = kept (about (place_at from end.index) (Decided o)) end.known;
        })
        (λ new. record { index = new.index; lies = lies_still book K from id new.index same.taken new.lies; known = new.known })
        (news from id o e);
    answered = answers;
  }

  -- a place where a transfer of the books lies is known opened, with terms of its identifier
  pub record KnowsLying (b : B) (book : Book) (from : ℕ) (id : List ℕ) (index : ℕ) : Type 0 where
    pub terms : Terms
    pub deadline : ℕ
    pub id_is : terms.id ≡ id
    pub known : KnowsOpening knows b (place_at from index) terms deadline

  pub lying : (b : B) (book : Book) (from : ℕ) (id : List ℕ) (index : ℕ) → IsLawfulBoard settings knows has_role b book → LiesAt book from id index → KnowsLying b book from id index
  lying b book from id index was lies = ⊎_elim
      (λ own.
      let t = own.1 in
      let u : Terms = terms_to t.to t.cents id in
      let d : ℕ = deadline_of book.settings.limit t.stamp in
      let r : KnowsLying b book from id index = record {
        terms = u;
        deadline = d;
        id_is = refl;
        known = subst (λ (p : ℕ). KnowsOpening knows b (place_at p index) u d) (sym own.0) (was.taken_known index id t.to t.cents t.stamp t.there);
      } in r)
      (λ arrived.
      let x = arrival_at from id index book.arrivals arrived in
      let u : Terms = terms_to book.who x.arrival.entry.cents x.arrival.entry.id in
      let r : KnowsLying b book from id index = record {
        terms = u;
        deadline = x.arrival.entry.deadline;
        id_is = x.id_is;
        known = subst (λ (p : ℕ). KnowsOpening knows b (place_at p index) u x.arrival.entry.deadline) x.from_is (was.forwarded_known x.arrival index x.there x.index_is);
      } in r)
      lies

  module _ (margin : ℕ) (b c : B) (k : Place) (p : Standing) (l : Learns margin knows b k p c) where
    -- what is known afterwards of the place is true of it
    pub says_at : (j : Place) (a : About) → j ≡ k → knows c (about j a) → Says p a
    says_at j a at kn = ⊎_elim
        (λ old. l.agrees a (subst (λ (x : Place). knows b (about x a)) at old))
        (λ new. new.1)
        (l.only (about j a) kn)

    -- what is known afterwards is true of lawful standings
    pub learnt_truly : (book : Book) → margin ≡ (settings b).margin → IsLawfulBoard settings knows has_role b book → (j : Place) → KnowsTruly book.settings.margin knows c j
    learnt_truly book fits was j =
        let same : margin ≡ book.settings.margin = fits ∙ ap (λ (s : HubSettings). s.margin) was.same_settings in
        subst (λ (m : ℕ). KnowsTruly m knows c j) same (learning_truly margin knows b c k p l (λ i. subst (λ (m : ℕ). KnowsTruly m knows b i) (sym same) (was.truly i)) j)

    pub learnt_own : (who : ℕ) → (k.owner ≡ who → Says p Opened → knows b (about k Opened)) → (index : ℕ) → knows c (about (place_at who index) Opened) → knows b (about (place_at who index) Opened)
    learnt_own who opened index kn = ⊎_elim
        (λ old. old)
        (λ new. subst (λ (x : Place). knows b (about x Opened)) (sym new.0) (opened (ap (λ (x : Place). x.owner) (sym new.0)) new.1))
        (l.only (about (place_at who index) Opened) kn)

    -- an answer that is known was known before, or is the place's
    pub learnt_answer : (j : Place) (t : Terms) (o : Outcome) → knows c (about j (HasTerms t)) → knows c (about j (Decided o))
        → (knows b (about j (HasTerms t)) × knows b (about j (Decided o))) ⊎ ((j ≡ k) × Says p (HasTerms t) × Says p (Decided o))
    learnt_answer j t o kt kd = ⊎_elim
        (λ told. ⊎_elim
        (λ ended. inl (told, ended))
        (λ new. inr (new.0, says_at j (HasTerms t) new.0 kt, new.1))
        (l.only (about j (Decided o)) kd))
        (λ new. inr (new.0, new.1, says_at j (Decided o) new.0 kd))
        (l.only (about j (HasTerms t)) kt)
