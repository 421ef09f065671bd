-- What a resolution books fits the history, and keeps what the books have to do with the board.
use Rattle.std.proofs.Common.{◌≡◌, ℕ, zero, suc, ◌<◌, arith, Bool, true, false, ◌||◌, ◌&&◌, ◌==◌, cond, List, [], ◌∷◌, length, inl, inr, ◌⊎◌, ⊎_elim, refl, sym, ap, ◌∙◌, subst, Option, Some, None, is_none}
use Rattle.std.specs.Prelude.{Contains, map}
use Rattle.std.specs.List.{list_any, filter, cons_option}
use Rattle.std.proofs.lemmas.List.Elements.{Contains-append_right}
use Rattle.std.specs.Cmp.Lexicographic.{nat_list_eq_equiv}
use Rattle.std.proofs.lemmas.Bool.{and_parts, or_cases, eqb-true, eq-eqb, false≢true}
use Rattle.inst_settings.specs.Settings.{HubSettings, same_text}
use Rattle.inst_command.specs.declared.entry.Entry.{Entry}
use Rattle.inst_command.specs.declared.outcome.Outcome.{Outcome}
use Rattle.inst_terms.specs.declared.terms.Terms.{Terms}
use Rattle.inst_command.specs.declared.place.Place.{Place}
use Rattle.inst_board.specs.declared.look.Look.{Look}
use Rattle.inst_board.specs.declared.look.Look.TheVariants.{Unused, Pending as LookPending, Decided as LookDecided}
use Rattle.inst_board.specs.declared.about.About.TheVariants.{Opened, HasTerms}
use Rattle.inst_board.specs.declared.about.Fact.{Fact}
use Rattle.inst_board.specs.Standing.{about}
use Rattle.inst_board.specs.Learning.{Looks}
use Rattle.inst_journal.specs.declared.event.Event.{Event}
use Rattle.inst_journal.specs.declared.event.Event.TheVariants.{Funded, Defunded, Taken, Forwarded, Booked, Fetched, Opened as OpenedEvent}
use Rattle.inst_journal.specs.Booked.{is_taken, is_forwarded, booked, takes, forwards}
use Rattle.inst_journal.specs.Opened.{carried, takes_live, live_taken, is_live}
use Rattle.inst_journal.specs.Reply.{inbox, entry_of}
use Rattle.inst_journal.specs.Sound.{Fits, BookedFits}
use Rattle.inst_slot.specs.declared.arrival.Arrival.{Arrival}
use Rattle.inst_slot.specs.Book.{Book, place_at, terms_to, arrived_at, is_at}
use Rattle.inst_slot.specs.LawfulBoard.{IsTakenAt, LiesAt, IsLawfulBoard}
use Rattle.inst_slot.specs.Telling.{is_party, resolution, with_event}
use Rattle.inst_slot.proofs.LiveTransfersAfterEvent.{slice_get_at, filtered}
use Rattle.inst_slot.proofs.BoardStaysLawful.{arrival_at}
use Rattle.inst_slot.proofs.EffectOfLookAndDecision.{saw_own, saw_decided_same, looked_booking}
use Rattle.inst_journal.proofs.EventsCarriedOverOpening.{or-true}

pub if_some : {A : Type 0} (b : Bool) (x e : A) → cond b (Some x) None ≡ Some e → (b ≡ true) × (x ≡ e)
if_some true x e h = let same : x ≡ e = cc in (refl, same)
if_some false x e h = let none : ⊥ = cc in absurd none

pub none_of : {A : Type 0} (o : Option A) → is_none o ≡ true → o ≡ None
none_of None h = refl
none_of (Some x) h = absurd (false≢true h)

pub itself : (text : List ℕ) → same_text text text ≡ true
itself text = nat_list_eq_equiv.refl text

pub contains_any : {A : Type 0} (p : A → Bool) (xs : List A) (x : A) → Contains xs x → p x ≡ true → list_any p xs ≡ true
contains_any p [] x (i, below, is) h = absurd (omega arith)
contains_any p (y ∷ ys) x (zero, below, is) h = ap (λ (b : Bool). b || list_any p ys) (ap p is ∙ h)
contains_any p (y ∷ ys) x (suc i, below, is) h = ap (λ (b : Bool). p y || b) (contains_any p ys x (i, omega arith, is) h) ∙ or-true (p y)

pub itself_forwards : (from : ℕ) (id : List ℕ) (cents d : ℕ) → forwards from id (Forwarded from id cents d) ≡ true
itself_forwards from id cents d = ap (λ (x : Bool). x && same_text id id) (eq-eqb from from refl) ∙ itself id

-- a live transfer of the participant's own was taken
pub record TakesIt (book : Book) (index : ℕ) : Type 0 where
  pub id : List ℕ
  pub at : IsTakenAt book id index

event_takes : (who : ℕ) (C : List Event) (e : Event) → takes_live who C e ≡ true → (id : List ℕ) × (to : ℕ) × (cents : ℕ) × (stamp : ℕ) × (e ≡ Taken id to cents stamp)
event_takes who C (Taken id to cents stamp) h = (id, to, cents, stamp, refl)
event_takes who C (Funded funding) h = absurd (false≢true h)
event_takes who C (Defunded funding) h = absurd (false≢true h)
event_takes who C (Forwarded from id cents d) h = absurd (false≢true h)
event_takes who C (Booked from id o) h = absurd (false≢true h)
event_takes who C (Fetched n) h = absurd (false≢true h)
event_takes who C OpenedEvent h = absurd (false≢true h)

pub taken_below : (book : Book) (index : ℕ) → index < length (live_taken book.who book.events) → TakesIt book index
taken_below book index below =
    let e = slice_get_at (live_taken book.who book.events) index below in
    let f = filtered (takes_live book.who (carried book.events)) book.events index e.0 e.1 in
    let t = event_takes book.who (carried book.events) e.0 f.1 in
    record { id = t.0; at = record { to = t.1; cents = t.2; stamp = t.3; there = e.1 ∙ ap (λ (x : Event). Some x) t.4 } }

pub taken_contains : (book : Book) (id : List ℕ) (index : ℕ) → (t : IsTakenAt book id index) → Contains book.events (Taken id t.to t.cents t.stamp)
taken_contains book id index t = (filtered (takes_live book.who (carried book.events)) book.events index (Taken id t.to t.cents t.stamp) t.there).0

pub taken_is : (book : Book) (id : List ℕ) (index : ℕ) → IsTakenAt book id index → is_taken id book.events ≡ true
taken_is book id index t = contains_any (takes id) book.events (Taken id t.to t.cents t.stamp) (taken_contains book id index t) (itself id)

-- an entry of the inbox was forwarded
entry_step : (e : Event) (x : Entry) → entry_of e ≡ Some x → forwards x.from x.id e ≡ true
entry_step (Forwarded from id cents d) x h =
    let y : Entry = record { from = from; id = id; cents = cents; deadline = d } in
    let same : y ≡ x = cc in
    subst (λ (z : Entry). forwards z.from z.id (Forwarded from id cents d) ≡ true) same (itself_forwards from id cents d)
entry_step (Taken id to cents stamp) x h = let none : ⊥ = cc in absurd none
entry_step (Funded funding) x h = let none : ⊥ = cc in absurd none
entry_step (Defunded funding) x h = let none : ⊥ = cc in absurd none
entry_step (Booked from id o) x h = let none : ⊥ = cc in absurd none
entry_step (Fetched n) x h = let none : ⊥ = cc in absurd none
entry_step OpenedEvent x h = let none : ⊥ = cc in absurd none

pub in_cons : (o : Option Entry) (rest : List Entry) (x : Entry) → Contains (cons_option o rest) x → (o ≡ Some x) ⊎ Contains rest x
in_cons None rest x h = inr h
in_cons (Some y) rest x (zero, below, is) = inl (ap (λ (z : Entry). Some z) is)
in_cons (Some y) rest x (suc i, below, is) = inr (i, omega arith, is)

pub entry_forwarded : (J : List Event) (x : Entry) → Contains (inbox J) x → is_forwarded x.from x.id J ≡ true
entry_forwarded [] x (i, below, is) = absurd (omega arith)
entry_forwarded (e ∷ J) x h = ⊎_elim
    (λ here. ap (λ (b : Bool). b || is_forwarded x.from x.id J) (entry_step e x here))
    (λ later. ap (λ (b : Bool). forwards x.from x.id e || b) (entry_forwarded J x later) ∙ or-true (forwards x.from x.id e))
    (in_cons (entry_of e) (inbox J) x h)

in_filter_step : (p : Entry → Bool) (y : Entry) (ys zs : List Entry) (x : Entry) (b : Bool) → p y ≡ b → (Contains zs x → Contains ys x × (p x ≡ true)) → Contains (cond b (y ∷ zs) zs) x → Contains (y ∷ ys) x × (p x ≡ true)
in_filter_step p y ys zs x true here rest (zero, below, is) = ((zero, omega arith, is), ap p (sym is) ∙ here)
in_filter_step p y ys zs x true here rest (suc i, below, is) = let r = rest (i, omega arith, is) in (Contains-append_right (y ∷ []) ys x r.0, r.1)
in_filter_step p y ys zs x false here rest h = let r = rest h in (Contains-append_right (y ∷ []) ys x r.0, r.1)

in_filter : (p : Entry → Bool) (xs : List Entry) (x : Entry) → Contains (filter p xs) x → Contains xs x × (p x ≡ true)
in_filter p [] x (i, below, is) = absurd (omega arith)
in_filter p (y ∷ ys) x h = in_filter_step p y ys (filter p ys) x (p y) refl (λ g. in_filter p ys x g) h

in_map : (A : List Arrival) (x : Arrival) → Contains A x → Contains (map (λ (y : Arrival). y.entry) A) x.entry
in_map [] x (i, below, is) = absurd (omega arith)
in_map (y ∷ A) x (zero, below, is) = (zero, omega arith, ap (λ (z : Arrival). z.entry) is)
in_map (y ∷ A) x (suc i, below, is) = Contains-append_right (y.entry ∷ []) (map (λ (z : Arrival). z.entry) A) x.entry (in_map A x (i, omega arith, is))

module _ {B : Type 0} (settings : B → HubSettings) (knows : B → Fact → Type 0) (has_role : B → ℕ → Type 0) where
  -- an arrival was forwarded, and is live
  pub arrival_forwarded : (b : B) (book : Book) (x : Arrival) → IsLawfulBoard settings knows has_role b book → Contains book.arrivals x
      → (is_forwarded x.entry.from x.entry.id book.events ≡ true) × (is_live x.entry.from x.entry.id book.events ≡ true)
  arrival_forwarded b book x was there =
      let i = in_filter (λ (entry : Entry). is_live entry.from entry.id book.events) (inbox book.events) x.entry
      (subst (λ (l : List Entry). Contains l x.entry) was.arrived (in_map book.arrivals x there)) in
      (entry_forwarded book.events x.entry i.0, i.1)

  -- what lies at a place is taken or forwarded
  pub lying_party : (b : B) (book : Book) (from : ℕ) (id : List ℕ) (index : ℕ) → IsLawfulBoard settings knows has_role b book → LiesAt book from id index
      → ((from ≡ book.who) × (is_taken id book.events ≡ true)) ⊎ (is_forwarded from id book.events ≡ true)
  lying_party b book from id index was lies = ⊎_elim
      (λ own. inl (own.0, taken_is book id index own.1))
      (λ arrived.
      let x = arrival_at from id index book.arrivals arrived in
      let f = (arrival_forwarded b book x.arrival was x.there).0 in
      inr (subst (λ (i : List ℕ). is_forwarded from i book.events ≡ true) x.id_is (subst (λ (p : ℕ). is_forwarded p x.arrival.entry.id book.events ≡ true) x.from_is f)))
      lies

  pub booking_fits : (b : B) (book : Book) (from : ℕ) (id : List ℕ) (index : ℕ) (o : Outcome) → IsLawfulBoard settings knows has_role b book → LiesAt book from id index → booked from id book.events ≡ None
      → Fits book.settings book.who book.events (Booked from id o)
  booking_fits b book from id index o was lies none =
      let f : BookedFits book.who book.events from id = record { party = lying_party b book from id index was lies; new = none } in f

-- when a look teaches
pub record Teaches (book : Book) (k : Place) (look : Look) (e : Event) : Type 0 where
  pub terms : Terms
  pub outcome : Outcome
  pub look_is : look ≡ LookDecided terms outcome
  pub party : is_party book k terms.id ≡ true
  pub new : booked k.owner terms.id book.events ≡ None
  pub event_is : e ≡ Booked k.owner terms.id outcome

pub teaches : (book : Book) (k : Place) (look : Look) (e : Event) → resolution book k look ≡ Some e → Teaches book k look e
teaches book k Unused e h = let none : ⊥ = cc in absurd none
teaches book k (LookPending t d) e h = let none : ⊥ = cc in absurd none
teaches book k (LookDecided t o) e h =
    let i = if_some (is_party book k t.id && is_none (booked k.owner t.id book.events)) (Booked k.owner t.id o) e h in
    let a = and_parts (is_party book k t.id) (is_none (booked k.owner t.id book.events)) i.0 in
    record { terms = t; outcome = o; look_is = refl; party = a.0; new = none_of (booked k.owner t.id book.events) a.1; event_is = sym i.1 }

at_index : (index : ℕ) (o : Option ℕ) → is_at index o ≡ true → o ≡ Some index
at_index index None h = absurd (false≢true h)
at_index index (Some other) h = ap (λ (n : ℕ). Some n) (eqb-true other index h)

module _ {B : Type 0} (settings : B → HubSettings) (knows : B → Fact → Type 0) (has_role : B → ℕ → Type 0) (margin : ℕ) (stood : B → Place → Outcome → Type 0)
    (b c : B) (k : Place) (look : Look) (h : Looks margin knows has_role stood b k look c) (book : Book) (was : IsLawfulBoard settings knows has_role b book) where
  pub own_lies : (t : Terms) (o : Outcome) → look ≡ LookDecided t o → k.owner ≡ book.who → IsTakenAt book t.id k.index
  own_lies t o e mine =
      let opened = saw_own settings knows has_role margin stood b c k look h t o e (subst (λ (x : ℕ). has_role b x) (sym mine) was.role) in
      let below = was.only_taken k.index (subst (λ (x : ℕ). knows b (about (place_at x k.index) Opened)) mine opened) in
      let x = taken_below book k.index below in
      let kn = was.taken_known k.index x.id x.at.to x.at.cents x.at.stamp x.at.there in
      let u : Terms = terms_to x.at.to x.at.cents x.id in
      let same = saw_decided_same settings knows has_role margin stood b c k look h t o e u (subst (λ (n : ℕ). knows b (about (place_at n k.index) (HasTerms u))) (sym mine) kn.terms) in
      subst (λ (i : List ℕ). IsTakenAt book i k.index) (ap (λ (v : Terms). v.id) same) x.at

  party_lies : (t : Terms) (o : Outcome) → look ≡ LookDecided t o → is_party book k t.id ≡ true → LiesAt book k.owner t.id k.index
  party_lies t o e p = ⊎_elim
      (λ own. let mine : k.owner ≡ book.who = eqb-true k.owner book.who own in inl (mine, own_lies t o e mine))
      (λ arrived. inr (at_index k.index (arrived_at k.owner t.id book.arrivals) arrived))
      (or_cases (k.owner == book.who) (is_at k.index (arrived_at k.owner t.id book.arrivals)) p)

  pub resolution_fits : (e : Event) → resolution book k look ≡ Some e → Fits book.settings book.who book.events e
  resolution_fits e l =
      let t = teaches book k look e l in
      subst (λ (x : Event). Fits book.settings book.who book.events x) (sym t.event_is)
      (booking_fits settings knows has_role b book k.owner t.terms.id k.index t.outcome was (party_lies t.terms t.outcome t.look_is t.party) t.new)

  pub resolution_keeps : (e : Event) → resolution book k look ≡ Some e → settings c ≡ settings b → margin ≡ (settings b).margin → (has_role b book.who → has_role c book.who) → IsLawfulBoard settings knows has_role c (with_event book (Some e))
  resolution_keeps e l same fits role =
      let t = teaches book k look e l in
      subst (λ (x : Event). IsLawfulBoard settings knows has_role c (with_event book (Some x))) (sym t.event_is)
      (looked_booking settings knows has_role margin stood b c k look h book t.terms.id t.terms t.outcome same fits role t.look_is (party_lies t.terms t.outcome t.look_is t.party) was)
