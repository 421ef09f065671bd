-- A settling, place by place: a look teaches a holder of all roles nothing, and what is done stays done.
use Rattle.std.proofs.Common.{◌≡◌, ◌≢◌, ℕ, zero, suc, ◌+◌, ◌<◌, ◌≤◌, arith, Bool, true, false, not, ◌&&◌, ◌||◌, ◌==◌, cond, List, [], ◌∷◌, ◌++◌, append-nil, append_assoc, inl, inr, ◌⊎◌, ⊎_elim, refl, sym, ap, ◌∙◌, subst, Option, Some, None, is_none, is_some, count_by}
use Rattle.std.specs.Prelude.{slice_get, Contains, ◌↔◌, Result, Ok, Err, IfOk, nat_lt}
use Rattle.std.specs.List.{AllByRecursion}
use Rattle.std.proofs.lemmas.Bool.{and_parts, ltb-true, eq-eqb, or_left, cases_Bool, cases_eq, cases_lt}
use Rattle.std.proofs.lemmas.List.Elements.{Contains-append_cases}
use Rattle.std.proofs.lemmas.List.Folds.{list_any-append}
use Rattle.inst_settings.specs.Settings.{HubSettings, participants}
use Rattle.inst_command.specs.declared.entry.Entry.{Entry}
use Rattle.inst_command.specs.declared.outcome.Outcome.{Outcome}
use Rattle.inst_terms.specs.declared.terms.Terms.{Terms}
use Rattle.inst_command.specs.declared.place.Place.{Place}
use Rattle.inst_board.specs.declared.look.Look.{Look}
use Rattle.inst_board.specs.declared.look.Look.TheVariants.{Pending as LookPending, Decided as LookDecided}
use Rattle.inst_board.specs.declared.about.About.{About}
use Rattle.inst_board.specs.declared.about.About.TheVariants.{Opened, HasTerms, Due, Decided, DecidedAt}
use Rattle.inst_board.specs.declared.about.Fact.{Fact}
use Rattle.inst_board.specs.Standing.{Standing, unused, pending, decided, Says, Shows, look_of, about, IsPlace}
use Rattle.inst_board.specs.Learning.{Looks, KnowTheSame}
use Rattle.inst_journal.specs.declared.event.Event.{Event}
use Rattle.inst_journal.specs.declared.event.Event.TheVariants.{Taken, Forwarded, Booked}
use Rattle.inst_journal.specs.Booked.{forwards, is_forwarded, books, booked, or_else}
use Rattle.inst_journal.specs.Opened.{live_taken}
use Rattle.inst_journal.proofs.EventsCarriedOverOpening.{carried_push}
use Rattle.inst_journal.proofs.FirstSome.{first_some-append}
use Rattle.inst_model.specs.Closing.{is_told, OnlyTold}
use Rattle.inst_slot.specs.declared.arrival.Arrival.{Arrival}
use Rattle.inst_slot.specs.Arrived.{unbooked_place, IsNextUnbooked, GivesUnbooked}
use Rattle.inst_slot.specs.Book.{Book, place_at, place_with_index, arrival_index, arrived_at}
use Rattle.inst_slot.specs.LawfulBoard.{LiesAt, IsLawfulBoard, KeepsOthers, AllAreAdopted}
use Rattle.inst_slot.specs.Telling.{delivery, with_delivery, is_party, resolution, with_event, Keeps}
use Rattle.inst_slot.proofs.LiveTransfersAfterEvent.{live_taken_still, newly_booked}
use Rattle.inst_slot.proofs.BoardStaysLawful.{lying}
use Rattle.inst_slot.proofs.EffectOfLookAndDecision.{looked_on}
use Rattle.inst_slot.proofs.ResolutionFitsBooks.{itself_forwards, teaches}
use Rattle.inst_slot.proofs.DeliveryFitsBooks.{delivers}
use Rattle.inst_model.proofs.TextsTestsAndFirstThings.{same_transfer_refl}
use Rattle.inst_slot.specs.Opening.{is_arrival_of}
use Rattle.inst_slot.proofs.ArrivalGetsItsPlace.{arrives_once}
use Rattle.inst_journal.specs.Sound.{IsSound}
use Rattle.std.proofs.lemmas.Bool.Decides.{nat_tests}
use Rattle.std.proofs.lemmas.List.Sums.{sum_by-cons}
use Rattle.std.specs.declared.alloc.AllocError.{AllocError}
use Rattle.inst_participant.specs.Together.{HasSettledAll}
use Rattle.inst_participant.proofs.PlacesInLists.{got, kept, counted_at, some_same}
use Rattle.inst_participant.specs.Settling.{HasAll, IsReadyToSettle, IsLater}
use Rattle.inst_participant.specs.inner.Settling.{IsBookedAt, HasArrived, OwnAreBooked, ArrivedAreBooked, HaveCome}

-- what is booked, and what has come, stays so as the history grows
still_some : {A : Type 0} (o p : Option A) → is_some o ≡ true → is_some (or_else o p) ≡ true
still_some None p e = let no : ⊥ = cc in absurd no
still_some (Some x) p e = refl

pub booked_on : (J K : List Event) → OnlyTold J K → (from : ℕ) (id : List ℕ) → is_some (booked from id J) ≡ true → is_some (booked from id K) ≡ true
booked_on J K t from id some =
    subst (λ (l : List Event). is_some (booked from id l) ≡ true) (sym t.appended)
    (ap is_some (first_some-append (books from id) J t.events) ∙ still_some (booked from id J) (booked from id t.events) some)

pub forwarded_on : (J K : List Event) → OnlyTold J K → (from : ℕ) (id : List ℕ) → is_forwarded from id J ≡ true → is_forwarded from id K ≡ true
forwarded_on J K t from id there =
    subst (λ (l : List Event). is_forwarded from id l ≡ true) (sym t.appended)
    (list_any-append (forwards from id) J t.events ∙ or_left (is_forwarded from id J) (is_forwarded from id t.events) there)

pub told_nothing : (J : List Event) → OnlyTold J J
told_nothing J = record { events = []; appended = sym (append-nil J); told = tt }

pub told_one : (J : List Event) (e : Event) → is_told e ≡ true → OnlyTold J (J ++ e ∷ [])
told_one J e h = record { events = e ∷ []; appended = refl; told = (h, tt) }

all_append : (P : Event → Type 0) (xs ys : List Event) → AllByRecursion P xs → AllByRecursion P ys → AllByRecursion P (xs ++ ys)
all_append P [] ys a b = b
all_append P (x ∷ xs) ys a b = (a.0, all_append P xs ys a.1 b)

pub told_on : (J K L : List Event) → OnlyTold J K → OnlyTold K L → OnlyTold J L
told_on J K L t u = record {
  events = t.events ++ u.events;
  appended = u.appended ∙ (ap (λ (l : List Event). l ++ u.events) t.appended ∙ append_assoc J t.events u.events);
  told = all_append (λ event. is_told event ≡ true) t.events u.events t.told u.told;
}

pub at_ok : {A E P : Type 0} (r : Result A E) (v : A) → r ≡ Ok v → IfOk r (λ _. P) → P
at_ok {A} {E} {P} r v is h = subst (λ (q : Result A E). IfOk q (λ _. P)) is h

-- the own transfers below this index are booked, where they have ended
abbrev pub OwnBelow : {B : Type 0} → (B → Fact → Type 0) → B → ℕ → Book → Type 0
OwnBelow knows b n y = (index : ℕ) (id : List ℕ) (to cents stamp : ℕ) (o : Outcome) → index < n →
    slice_get (live_taken y.who y.events) index ≡ Some (Taken id to cents stamp) →
    knows b (about (place_at y.who index) (Decided o)) → is_some (booked y.who id y.events) ≡ true

-- and those that came, below this position
abbrev pub ArrivedBelow : {B : Type 0} → (B → Fact → Type 0) → B → ℕ → Book → Type 0
ArrivedBelow knows b n y = (i : ℕ) (x : Arrival) (index : ℕ) (o : Outcome) → i < n → slice_get y.arrivals i ≡ Some x →
    x.index ≡ Some index → knows b (about (place_at x.entry.from index) (Decided o)) → is_some (booked x.entry.from x.entry.id y.events) ≡ true

-- what this originator has for the participant below this index has come
abbrev pub ComeBelow : {B : Type 0} → (B → Fact → Type 0) → B → ℕ → ℕ → Book → Type 0
ComeBelow knows b owner n y = (index : ℕ) → index < n → HasArrived knows b (place_at owner index) y

-- and what all originators below this number have
abbrev pub AllComeBelow : {B : Type 0} → (B → Fact → Type 0) → B → ℕ → Book → Type 0
AllComeBelow knows b n y = (owner : ℕ) → owner < n → owner ≢ y.who → HaveCome knows b owner y

-- an arrival that is the only one of its transfer is found by it
arrived_found : (A : List Arrival) (i : ℕ) (a : Arrival) (index : ℕ) → count_by (is_arrival_of a.entry.from a.entry.id) A ≤ 1 → slice_get A i ≡ Some a → a.index ≡ Some index → arrived_at a.entry.from a.entry.id A ≡ Some index
arrived_found [] i a index once there is = let no : ⊥ = cc in absurd no
arrived_found (y ∷ A) zero a index once there is =
    let same : y ≡ a = cc in
    ap (λ (z : Arrival). or_else (arrival_index a.entry.from a.entry.id z) (arrived_at a.entry.from a.entry.id A)) same ∙ ap (λ (o : Option ℕ). or_else o (arrived_at a.entry.from a.entry.id A)) (ap (λ (b : Bool). cond b a.index None) (same_transfer_refl a.entry.from a.entry.id) ∙ is)
arrived_found (y ∷ A) (suc i) a index once there is =
    let rest : count_by (is_arrival_of a.entry.from a.entry.id) A ≤ 1 = omega (arith, sum_by-cons (λ (z : Arrival). cond (is_arrival_of a.entry.from a.entry.id z) 1 0) y A, once) in
    let one : 1 ≤ count_by (is_arrival_of a.entry.from a.entry.id) A = counted_at (is_arrival_of a.entry.from a.entry.id) A i a there (same_transfer_refl a.entry.from a.entry.id) in
    elim (cases_Bool (is_arrival_of a.entry.from a.entry.id y)) [
      | inl e ↦ let here : cond (is_arrival_of a.entry.from a.entry.id y) 1 0 ≡ 1 = ap {B = ℕ} (λ b. cond b 1 0) e in absurd (omega (arith, sum_by-cons (λ (z : Arrival). cond (is_arrival_of a.entry.from a.entry.id z) 1 0) y A, once, one, here))
      | inr e ↦ ap (λ (b : Bool). or_else (cond b y.index None) (arrived_at a.entry.from a.entry.id A)) e ∙ arrived_found A i a index rest there is
    ]

-- an arrival with a place that is passed over is booked
passed : (x : Book) (a : Arrival) (index : ℕ) → unbooked_place x a ≡ None → a.index ≡ Some index → is_some (booked a.entry.from a.entry.id x.events) ≡ true
passed x a index none is = go (booked a.entry.from a.entry.id x.events) (ap (λ (o : Option ℕ). cond (is_none (booked a.entry.from a.entry.id x.events)) (place_with_index a.entry.from o) None) (sym is) ∙ none)
  where
    go : (o : Option Outcome) → cond (is_none o) (place_with_index a.entry.from (Some index)) None ≡ None → is_some o ≡ true
    go None e = let no : ⊥ = cc in absurd no
    go (Some z) e = refl

-- the place of one that isn't
its_place : (x : Book) (a : Arrival) (index : ℕ) (k : Place) → unbooked_place x a ≡ Some k → a.index ≡ Some index → place_at a.entry.from index ≡ k
its_place x a index k some is = go (is_none (booked a.entry.from a.entry.id x.events)) (ap (λ (o : Option ℕ). cond (is_none (booked a.entry.from a.entry.id x.events)) (place_with_index a.entry.from o) None) (sym is) ∙ some)
  where
    go : (b : Bool) → cond b (place_with_index a.entry.from (Some index)) None ≡ Some k → place_at a.entry.from index ≡ k
    go true e = cc
    go false e = let no : ⊥ = cc in absurd no

less : (i n : ℕ) → i < n + 1 → i ≢ n → i < n
less i n below other = omega (arith, below, other)

-- what a standing says
record IsDecided (p : Standing) (o : Outcome) : Type 0 where
  pub terms : Terms
  pub deadline : ℕ
  pub moment : ℕ
  pub is : p ≡ decided terms deadline o moment

decided_of : (p : Standing) (o : Outcome) → Says p (Decided o) → IsDecided p o
decided_of unused o says = absurd says
decided_of (pending t d) o says = absurd says
decided_of (decided t d z m) o says = record { terms = t; deadline = d; moment = m; is = ap (λ (y : Outcome). decided t d y m) (sym says) }

no_end : (p : Standing) (t : Terms) (d : ℕ) (o : Outcome) → look_of p ≡ LookPending t d → Says p (Decided o) → ⊥
no_end unused t d o e says = says
no_end (pending u x) t d o e says = says
no_end (decided u x z m) t d o e says = cc

module _ {B : Type 0} (settings : B → HubSettings) (knows : B → Fact → Type 0) (has_role : B → ℕ → Type 0) (margin : ℕ) (stood : B → Place → Outcome → Type 0) (stays : B → B → Type 0)
    (stays_settings : (a b : B) → stays a b → settings b ≡ settings a) (stays_roles : (a b : B) (p : ℕ) → stays a b → has_role a p ↔ has_role b p)
    (stays_on : (a b c : B) → stays a b → stays b c → stays a c) (stays_still : (a : B) → stays a a) where
  pub later_on : (b c d : B) (x y z : Book) → IsLater settings knows has_role stays b x c y → IsLater settings knows has_role stays c y d z → IsLater settings knows has_role stays b x d z
  later_on b c d x y z l m = record {
    settings_are = m.settings_are ∙ l.settings_are;
    who_is = m.who_is ∙ l.who_is;
    told = told_on x.events y.events z.events l.told m.told;
    known = λ f. (λ h. (l.known f).0 ((m.known f).0 h), λ h. (m.known f).1 ((l.known f).1 h));
    still = subst (λ (q : ℕ). live_taken q z.events ≡ live_taken q y.events) l.who_is m.still ∙ l.still;
    since = m.since ∙ l.since;
    came = λ a there. ⊎_elim
        (λ old. l.came a old)
        (λ new. inr (λ index o is kn. new index o is ((l.known (about (place_at a.entry.from index) (Decided o))).1 kn)))
        (m.came a there);
    others = λ book ne was. m.others book (λ e. ne (e ∙ l.who_is)) (l.others book ne was);
    stays_on = stays_on b c d l.stays_on m.stays_on;
  }

  -- the roles and the addresses stay
  pub all_still : (b c : B) → stays b c → KnowTheSame knows b c → HasAll settings knows has_role b → HasAll settings knows has_role c
  all_still b c holder known all = record {
    role = λ p below. (stays_roles b c p holder).0 (all.role p (subst (λ (s : HubSettings). p < participants s) (stays_settings b c holder) below));
    addressed = λ k t o h. (stays_roles b c t.to holder).0 (all.addressed k t ((known (about k Opened)).0 o) ((known (about k (HasTerms t))).0 h));
    in_order = λ k index less o. (known (about (place_at k.owner index) Opened)).1 (all.in_order k index less ((known (about k Opened)).0 o));
  }

  module _ (b c : B) (k : Place) (look : Look) (looks : Looks margin knows has_role stood b k look c) (owner : k.owner < participants (settings b)) (all : HasAll settings knows has_role b) (holder : stays b c) where
    said : (a : About) → Says looks.standing a → knows c (about k a) → knows b (about k a)
    said Opened says kn = looks.own (all.role k.owner owner) Opened tt says
    said (HasTerms t) says kn = looks.own (all.role k.owner owner) (HasTerms t) tt says
    said (Due d) says kn = looks.own (all.role k.owner owner) (Due d) tt says
    said (Decided o) says kn =
        let f = decided_of looks.standing o says in
        let opened : Says looks.standing Opened = subst (λ (q : Standing). Says q Opened) (sym f.is) tt in
        let has : Says looks.standing (HasTerms f.terms) = subst (λ (q : Standing). Says q (HasTerms f.terms)) (sym f.is) refl in
        let kn_opened = looks.own (all.role k.owner owner) Opened tt opened in
        let kn_terms = looks.own (all.role k.owner owner) (HasTerms f.terms) tt has in
        looks.ended (all.role k.owner owner) f.terms has (all.addressed k f.terms kn_opened kn_terms) o says
    said (DecidedAt m) says kn = looks.reading m kn

    -- a look teaches nothing
    pub nothing_new : KnowTheSame knows b c
    nothing_new f = (
      λ kn. ⊎_elim
          (λ old. old)
          (λ new. subst (λ (p : Place). knows b (about p f.about)) (sym new.0) (said f.about new.1 (subst (λ (p : Place). knows c (about p f.about)) new.0 kn)))
          (looks.learns.only f kn),
      λ kn. looks.learns.kept f kn,
    )

    -- one event more
    module _ (x : Book) (others : KeepsOthers settings knows has_role b x.who c) where
      same_later : (y : Book) → y ≡ x → IsLater settings knows has_role stays b x c y
      same_later y e = subst (λ (z : Book). IsLater settings knows has_role stays b x c z) (sym e) (record {
        settings_are = refl;
        who_is = refl;
        told = told_nothing x.events;
        known = nothing_new;
        still = refl;
        since = refl;
        came = λ z there. inl there;
        others = others;
        stays_on = holder;
      })

      event_later : (e : Event) → resolution x k look ≡ Some e → IsLater settings knows has_role stays b x c (with_event x (Some e))
      event_later e is =
          let t = teaches x k look e is in
          subst (λ (z : Event). IsLater settings knows has_role stays b x c (with_event x (Some z))) (sym t.event_is) (record {
            settings_are = refl;
            who_is = refl;
            told = told_one x.events (Booked k.owner t.terms.id t.outcome) refl;
            known = nothing_new;
            still = live_taken_still x.who x.events (Booked k.owner t.terms.id t.outcome) refl refl;
            since = carried_push x.events (Booked k.owner t.terms.id t.outcome) refl;
            came = λ z there. inl there;
            others = others;
            stays_on = holder;
          })

      resolution_later : (o : Option Event) → resolution x k look ≡ o → IsLater settings knows has_role stays b x c (with_event x o)
      resolution_later None is = same_later x refl
      resolution_later (Some e) is = event_later e is

      pub learnt_later : (y : Book) (r : Result Bool AllocError) → Keeps (is_some (resolution x k look)) x (with_event x (resolution x k look)) r y → IsLater settings knows has_role stays b x c y
      learnt_later y r keeps = ⊎_elim
          (λ done. subst (λ (z : Book). IsLater settings knows has_role stays b x c z) (sym done.1) (resolution_later (resolution x k look) refl))
          (λ refused. same_later y refused.1) keeps

      entry_later : (entry : Entry) → delivery x k look ≡ Some entry → IsLater settings knows has_role stays b x c (with_delivery x k (Some entry))
      entry_later entry is =
          let d = delivers x k look entry is in
          record {
            settings_are = refl;
            who_is = refl;
            told = told_one x.events (Forwarded entry.from entry.id entry.cents entry.deadline) refl;
            known = nothing_new;
            still = live_taken_still x.who x.events (Forwarded entry.from entry.id entry.cents entry.deadline) refl refl;
            since = carried_push x.events (Forwarded entry.from entry.id entry.cents entry.deadline) refl;
            came = λ z there. ⊎_elim
                (λ old. inl old)
                (λ new. inr (λ index o at kn.
                let z_is : z ≡ record { entry = entry; index = Some k.index } = last z new in
                let i : Some index ≡ Some k.index = sym at ∙ ap (λ (w : Arrival). w.index) z_is in
                let index_is : index ≡ k.index = the_same index k.index i in
                let from_is : z.entry.from ≡ k.owner = ap (λ (w : Arrival). w.entry.from) z_is ∙ ap (λ (e : Entry). e.from) d.entry_is in
                let here : knows b (about k (Decided o)) = subst (λ (q : ℕ). knows b (about (place_at q k.index) (Decided o))) from_is (subst (λ (n : ℕ). knows b (about (place_at z.entry.from n) (Decided o))) index_is kn) in
                no_end looks.standing d.terms d.deadline o (sym looks.look_is ∙ d.look_is) (looks.learns.agrees (Decided o) here)))
                (Contains-append_cases x.arrivals (record { entry = entry; index = Some k.index } ∷ []) z there);
            others = others;
            stays_on = holder;
          }
        where
          the_same : (m n : ℕ) → Some m ≡ Some n → m ≡ n
          the_same m n e = cc

          last : (z : Arrival) → Contains (record { entry = entry; index = Some k.index } ∷ []) z → z ≡ record { entry = entry; index = Some k.index }
          last z (zero, below, at) = sym at
          last z (suc i, below, at) = absurd (omega arith)

      delivery_later : (o : Option Entry) → delivery x k look ≡ o → IsLater settings knows has_role stays b x c (with_delivery x k o)
      delivery_later None is = same_later x refl
      delivery_later (Some entry) is = entry_later entry is

      pub delivered_later : (y : Book) (r : Result Bool AllocError) → Keeps (is_some (delivery x k look)) x (with_delivery x k (delivery x k look)) r y → IsLater settings knows has_role stays b x c y
      delivered_later y r keeps = ⊎_elim
          (λ done. subst (λ (z : Book). IsLater settings knows has_role stays b x c z) (sym done.1) (delivery_later (delivery x k look) refl))
          (λ refused. same_later y refused.1) keeps

    -- where the transfer at the place has ended it is booked
    module _ (x : Book) (lawful : IsLawfulBoard settings knows has_role b x) where
      party_of : (id : List ℕ) → LiesAt x k.owner id k.index → is_party x k id ≡ true
      party_of id lies = ⊎_elim
          (λ own. ap (λ (b : Bool). b || is_at_index) (eq-eqb k.owner x.who own.0))
          (λ arrived. ap (λ (o : Option ℕ). (k.owner == x.who) || at_index o) arrived ∙ (ap (λ (b : Bool). (k.owner == x.who) || b) (eq-eqb k.index k.index refl) ∙ true_right (k.owner == x.who)))
          lies
        where
          at_index : Option ℕ → Bool
          at_index None = false
          at_index (Some other) = other == k.index

          is_at_index : Bool
          is_at_index = at_index (arrived_at k.owner id x.arrivals)

          true_right : (b : Bool) → (b || true) ≡ true
          true_right true = refl
          true_right false = refl

      booked_with : (id : List ℕ) (t : Terms) (o : Outcome) → look ≡ LookDecided t o → t.id ≡ id → is_party x k id ≡ true → (z : Option Outcome) → booked k.owner id x.events ≡ z → is_some (booked k.owner id (with_event x (resolution x k look)).events) ≡ true
      booked_with id t o is named party z old =
          subst (λ (l : Look). is_some (booked k.owner id (with_event x (resolution x k l)).events) ≡ true) (sym is)
          (subst (λ (name : List ℕ). is_some (booked k.owner name (with_event x (resolution x k (LookDecided t o))).events) ≡ true) named
          (go (is_party x k t.id) (booked k.owner t.id x.events) (ap (is_party x k) named ∙ party) refl))
        where
          go : (p : Bool) (w : Option Outcome) → p ≡ true → booked k.owner t.id x.events ≡ w → is_some (booked k.owner t.id (with_event x (cond (p && is_none w) (Some (Booked k.owner t.id o)) None)).events) ≡ true
          go true None e was = ap is_some (newly_booked k.owner t.id x.events o was)
          go true (Some w) e was = ap is_some was
          go false w e was = let no : ⊥ = cc in absurd no

      pub learnt_booked : (y : Book) (r : Result Bool AllocError) → Keeps (is_some (resolution x k look)) x (with_event x (resolution x k look)) r y → IfOk r (λ _. IsBookedAt knows b x k y)
      learnt_booked y r keeps = ⊎_elim
          (λ done. if_ok r (λ id o lies kn.
          let s = looks.standing in
          let f = decided_of s o (looks.learns.agrees (Decided o) kn) in
          let l = lying settings knows has_role b x k.owner id k.index lawful lies in
          let t_is : l.terms ≡ f.terms = subst (λ (p : Standing). Says p (HasTerms l.terms)) f.is (looks.learns.agrees (HasTerms l.terms) l.known.terms) in
          let look_is : look ≡ LookDecided f.terms o = looks.look_is ∙ ap look_of f.is in
          let named : f.terms.id ≡ id = ap (λ (u : Terms). u.id) (sym t_is) ∙ l.id_is in
          subst (λ (z : Book). is_some (booked k.owner id z.events) ≡ true) (sym done.1) (booked_with id f.terms o look_is named (party_of id lies) (booked k.owner id x.events) refl)))
          (λ refused. subst (λ (q : Result Bool AllocError). IfOk q (λ _. IsBookedAt knows b x k y)) (sym refused.0) tt) keeps
        where
          if_ok : (q : Result Bool AllocError) → IsBookedAt knows b x k y → IfOk q (λ _. IsBookedAt knows b x k y)
          if_ok (Ok v) h = h
          if_ok (Err v) h = tt

    -- what is pending at the place has come
    module _ (x : Book) where
      come_with : (t u : Terms) (d : ℕ) → look ≡ LookPending u d → t ≡ u → t.to ≡ x.who → is_forwarded k.owner t.id (with_delivery x k (delivery x k look)).events ≡ true
      come_with t u d is same mine =
          subst (λ (l : Look). is_forwarded k.owner t.id (with_delivery x k (delivery x k l)).events ≡ true) (sym is)
          (subst (λ (v : Terms). is_forwarded k.owner v.id (with_delivery x k (delivery x k (LookPending u d))).events ≡ true) (sym same)
          (go (u.to == x.who) (is_forwarded k.owner u.id x.events) (eq-eqb u.to x.who (ap (λ (v : Terms). v.to) (sym same) ∙ mine)) refl))
        where
          e : Entry
          e = record { from = k.owner; id = u.id; cents = u.cents; deadline = d }

          go : (p w : Bool) → p ≡ true → is_forwarded k.owner u.id x.events ≡ w → is_forwarded k.owner u.id (with_delivery x k (cond (p && not w) (Some e) None)).events ≡ true
          go true true h was = was
          go true false h was =
              list_any-append (forwards k.owner u.id) x.events (Forwarded k.owner u.id u.cents d ∷ [])
              ∙ (ap (λ (b : Bool). is_forwarded k.owner u.id x.events || (b || false)) (itself_forwards k.owner u.id u.cents d) ∙ true_end (is_forwarded k.owner u.id x.events))
            where
              true_end : (b : Bool) → (b || (true || false)) ≡ true
              true_end true = refl
              true_end false = refl
          go false w h was = let no : ⊥ = cc in absurd no

      come_by : (s : Standing) → s ≡ looks.standing → HasArrived knows b k (with_delivery x k (delivery x k look))
      come_by s s_is t mine kn_opened kn_terms = go s s_is
        where
          who_same : (o : Option Entry) → (with_delivery x k o).who ≡ x.who
          who_same None = refl
          who_same (Some e) = refl

          mine_too : t.to ≡ x.who
          mine_too = mine ∙ who_same (delivery x k look)

          go : (s : Standing) → s ≡ looks.standing → (is_forwarded k.owner t.id (with_delivery x k (delivery x k look)).events ≡ true) ⊎ ((o : Outcome) × knows b (about k (Decided o)))
          go unused is = absurd (subst (λ (p : Standing). Says p Opened) (sym is) (looks.learns.agrees Opened kn_opened))
          go (pending u d) is =
              let same : t ≡ u = subst (λ (p : Standing). Says p (HasTerms t)) (sym is) (looks.learns.agrees (HasTerms t) kn_terms) in
              inl (come_with t u d (looks.look_is ∙ ap look_of (sym is)) same mine_too)
          go (decided u d o m) is =
              let shown : knows c (about k (Decided o)) = looks.learns.shown (Decided o) (subst (λ (p : Standing). ShowsEnd p o) is refl) in
              inr (o, (nothing_new (about k (Decided o))).0 shown)
            where
              ShowsEnd : Standing → Outcome → Type 0
              ShowsEnd p z = Shows p (Decided z)

      pub delivered_come : (y : Book) (r : Result Bool AllocError) → Keeps (is_some (delivery x k look)) x (with_delivery x k (delivery x k look)) r y → IfOk r (λ _. HasArrived knows b k y)
      delivered_come y r keeps = ⊎_elim
          (λ done. if_ok r (subst (λ (z : Book). HasArrived knows b k z) (sym done.1) (come_by looks.standing refl)))
          (λ refused. subst (λ (q : Result Bool AllocError). IfOk q (λ _. HasArrived knows b k y)) (sym refused.0) tt) keeps
        where
          if_ok : (q : Result Bool AllocError) → HasArrived knows b k y → IfOk q (λ _. HasArrived knows b k y)
          if_ok (Ok v) h = h
          if_ok (Err v) h = tt

  -- who was ready still is
  pub ready_on : (b c : B) (x y : Book) → IsReadyToSettle settings knows has_role b x → IsLater settings knows has_role stays b x c y → IsLawfulBoard settings knows has_role c y → AllAreAdopted y → IsReadyToSettle settings knows has_role c y
  ready_on b c x y r l lawful adopted = record {
    participant = subst (λ (s : HubSettings). y.who < participants s) (sym (stays_settings b c l.stays_on)) (subst (λ (q : ℕ). q < participants (settings b)) (sym l.who_is) r.participant);
    lawful = lawful;
    adopted = adopted;
    all = all_still b c l.stays_on l.known r.all;
  }

  -- after a look alone, at which the book stays
  module _ (b c : B) (k : Place) (look : Look) (looks : Looks margin knows has_role stood b k look c) (fits : margin ≡ (settings b).margin) (x : Book) (r : IsReadyToSettle settings knows has_role b x) (owner : k.owner < participants (settings b)) (holder : stays b c) where
    keeps : (book : Book) → IsLawfulBoard settings knows has_role b book → IsLawfulBoard settings knows has_role c book
    keeps book was = looked_on settings knows has_role margin stood b c k look looks book (stays_settings b c holder) fits (stays_roles b c book.who holder).0 was

    pub looked_later : IsLater settings knows has_role stays b x c x
    looked_later = same_later b c k look looks owner r.all holder x (λ book ne was. keeps book was) x refl

    pub looked_ready : IsReadyToSettle settings knows has_role c x
    looked_ready = ready_on b c x x r looked_later (keeps x r.lawful) r.adopted

    pub owner_still : k.owner < participants (settings c)
    owner_still = subst (λ (s : HubSettings). k.owner < participants s) (sym (stays_settings b c holder)) owner

  -- what was done stays done
  own_kept : (d b c : B) (w x y : Book) (n : ℕ) → IsLater settings knows has_role stays d w b x → IsLater settings knows has_role stays b x c y → OwnBelow knows d n x → OwnBelow knows d n y
  own_kept d b c w x y n before l done index id to cents stamp o below there kn =
      let there_x : slice_get (live_taken x.who x.events) index ≡ Some (Taken id to cents stamp) =
      ap (λ (t : List Event). slice_get t index) (sym l.still) ∙ (ap (λ (q : ℕ). slice_get (live_taken q y.events) index) (sym l.who_is) ∙ there) in
      let is = done index id to cents stamp o below there_x (subst (λ (q : ℕ). knows d (about (place_at q index) (Decided o))) l.who_is kn) in
      subst (λ (q : ℕ). is_some (booked q id y.events) ≡ true) (sym l.who_is) (booked_on x.events y.events l.told x.who id is)

  -- from the beginning d with w, through b with x, one own place more is looked at
  pub own_more : (d b c : B) (w x y : Book) (n : ℕ) → IsLater settings knows has_role stays d w b x → IsLater settings knows has_role stays b x c y → IsBookedAt knows b x (place_at x.who n) y → OwnBelow knows d n x → OwnBelow knows d (n + 1) y
  own_more d b c w x y n before l here done index id to cents stamp o below there kn = elim (cases_eq index n) [
    | inr other ↦ own_kept d b c w x y n before l done index id to cents stamp o (less index n below other) there kn
    | inl same ↦
        let there_x : slice_get (live_taken x.who x.events) n ≡ Some (Taken id to cents stamp) =
        ap (slice_get (live_taken x.who x.events)) (sym same) ∙ (ap (λ (t : List Event). slice_get t index) (sym l.still) ∙ (ap (λ (q : ℕ). slice_get (live_taken q y.events) index) (sym l.who_is) ∙ there)) in
        let at_n : knows d (about (place_at x.who n) (Decided o)) = subst (λ (i : ℕ). knows d (about (place_at x.who i) (Decided o))) same (subst (λ (q : ℕ). knows d (about (place_at q index) (Decided o))) l.who_is kn) in
        let is = here id o (inl (refl, record { to = to; cents = cents; stamp = stamp; there = there_x })) ((before.known (about (place_at x.who n) (Decided o))).1 at_n) in
        subst (λ (q : ℕ). is_some (booked q id y.events) ≡ true) (sym l.who_is) is
  ]

  pub own_on : (d b c : B) (w x y : Book) → IsLater settings knows has_role stays d w b x → IsLater settings knows has_role stays b x c y → OwnAreBooked knows d x → OwnAreBooked knows d y
  own_on d b c w x y before l done index id to cents stamp o there kn =
      own_kept d b c w x y (index + 1) before l (λ i name q n m z below at kn'. done i name q n m z at kn') index id to cents stamp o (omega arith) there kn

  -- one arrival more is looked at, after those that are booked or have no place were passed over
  pub arrived_more : (d b c : B) (w x y : Book) (from position : ℕ) (k : Place) (s : HubSettings) → IsSound s x.who x.events → IsLawfulBoard settings knows has_role b x → IsLater settings knows has_role stays d w b x → IsLater settings knows has_role stays b x c y
      → y.arrivals ≡ x.arrivals → IsNextUnbooked x from (position, k) → IsBookedAt knows b x k y → ArrivedBelow knows d from x → ArrivedBelow knows d (position + 1) y
  arrived_more d b c w x y from position k s sound lawful before l same next here done i a index o below there is kn = elim (cases_Bool (nat_lt i from)) [
    | inl early ↦ booked_on x.events y.events l.told a.entry.from a.entry.id (done i a index o (ltb-true i from early) there_x is kn)
    | inr late ↦ elim (cases_eq i position) [
      | inr other ↦ booked_on x.events y.events l.told a.entry.from a.entry.id (passed x a index (next.first i a (not_below i from late) (less i position below other) there_x) is)
      | inl at_it ↦
          let there_p : slice_get x.arrivals position ≡ Some a = ap (slice_get x.arrivals) (sym at_it) ∙ there_x in
          let whole : Some next.arrival ≡ Some a = sym next.there ∙ there_p in
          let one : next.arrival ≡ a = some_same next.arrival a whole in
          let place : place_at a.entry.from index ≡ k = its_place x a index k (ap (unbooked_place x) (sym one) ∙ next.place) is in
          let found = arrived_found x.arrivals position a index (arrives_once s x.who x.events x.arrivals a.entry.from a.entry.id sound lawful.arrived) there_p is in
          let booked_there = subst (λ (q : Place). IsBookedAt knows b x q y) (sym place) here in
          booked_there a.entry.id o (inr found) ((before.known (about (place_at a.entry.from index) (Decided o))).1 kn)
    ]
  ]
    where
      there_x : slice_get x.arrivals i ≡ Some a
      there_x = ap (λ (A : List Arrival). slice_get A i) (sym same) ∙ there

      not_below : (i n : ℕ) → nat_lt i n ≡ false → n ≤ i
      not_below i n e = grind (arith, nat_tests)

  pub arrived_all : (d : B) (y : Book) (from : ℕ) → GivesUnbooked y from None → ArrivedBelow knows d from y → ArrivedAreBooked knows d y
  arrived_all d y from none done a index o there is kn =
      let g = got y.arrivals a there in
      elim (cases_Bool (nat_lt g.0 from)) [
        | inl early ↦ done g.0 a index o (ltb-true g.0 from early) g.1 is kn
        | inr late ↦ passed y a index (none g.0 a (not_below g.0 from late) g.1) is
      ]
    where
      not_below : (i n : ℕ) → nat_lt i n ≡ false → n ≤ i
      not_below i n e = grind (arith, nat_tests)

  -- the place of the next arrival is a participant's
  pub arrival_owner : (b : B) (x : Book) (from position : ℕ) (k : Place) → ((j : Place) (a : About) → knows b (about j a) → IsPlace (settings b) j) → IsLawfulBoard settings knows has_role b x → IsNextUnbooked x from (position, k) → k.owner < participants (settings b)
  arrival_owner b x from position k places lawful next = go next.arrival.index refl
    where
      go : (o : Option ℕ) → next.arrival.index ≡ o → k.owner < participants (settings b)
      go (Some index) is =
          let place : place_at next.arrival.entry.from index ≡ k = its_place x next.arrival index k next.place is in
          let known = lawful.forwarded_known next.arrival index (kept x.arrivals next.arrival position next.there) is in
          let at = subst (λ (q : Place). IsPlace (settings b) q) place (places (place_at next.arrival.entry.from index) Opened known.opened) in
          ltb-true k.owner (participants (settings b)) (and_parts (nat_lt k.owner (participants (settings b))) (nat_lt k.index (settings b).places) at).0
      go None is =
          let none : unbooked_place x next.arrival ≡ None = ap (λ (o : Option ℕ). cond (is_none (booked next.arrival.entry.from next.arrival.entry.id x.events)) (place_with_index next.arrival.entry.from o) None) is ∙ nothing (is_none (booked next.arrival.entry.from next.arrival.entry.id x.events)) in
          let no : None ≡ Some k = sym none ∙ next.place in
          let bad : ⊥ = cc in absurd bad
        where
          nothing : (b : Bool) → cond b (place_with_index next.arrival.entry.from None) None ≡ None
          nothing true = refl
          nothing false = refl

  -- what has come stays so
  come_kept : (d b c : B) (w x y : Book) (k : Place) → IsLater settings knows has_role stays d w b x → IsLater settings knows has_role stays b x c y → HasArrived knows d k x → HasArrived knows d k y
  come_kept d b c w x y k before l done t mine opened has = elim (done t (mine ∙ l.who_is) opened has) [
    | inl there ↦ inl (forwarded_on x.events y.events l.told k.owner t.id there)
    | inr ended ↦ inr ended
  ]

  pub come_from : (d b : B) (w x y : Book) (k : Place) → IsLater settings knows has_role stays d w b x → HasArrived knows b k y → HasArrived knows d k y
  come_from d b w x y k before done t mine opened has = elim (done t mine ((before.known (about k Opened)).1 opened) ((before.known (about k (HasTerms t))).1 has)) [
    | inl there ↦ inl there
    | inr ended ↦ inr (ended.0, (before.known (about k (Decided ended.0))).0 ended.1)
  ]

  -- nothing has to come from behind a place that isn't opened
  pub come_all : (d b : B) (w x y : Book) (owner n : ℕ) → HasAll settings knows has_role d → IsLater settings knows has_role stays d w b x → (knows b (about (place_at owner n) Opened) → ⊥) → ComeBelow knows d owner (n + 1) y → HaveCome knows d owner y
  come_all d b w x y owner n all before none done index t mine opened has = elim (cases_lt index (n + 1)) [
    | inl below ↦ done index below t mine opened has
    | inr past ↦ absurd (none ((before.known (about (place_at owner n) Opened)).1 (all.in_order (place_at owner index) n (omega (arith, past)) opened)))
  ]

  pub come_more : (d b c : B) (w x y : Book) (owner n : ℕ) → IsLater settings knows has_role stays d w b x → IsLater settings knows has_role stays b x c y → HasArrived knows b (place_at owner n) y → ComeBelow knows d owner n x → ComeBelow knows d owner (n + 1) y
  come_more d b c w x y owner n before l here done index below = elim (cases_eq index n) [
    | inr other ↦ come_kept d b c w x y (place_at owner index) before l (done index (less index n below other))
    | inl same ↦ subst (λ (i : ℕ). HasArrived knows d (place_at owner i) y) (sym same) (come_from d b w x y (place_at owner n) before here)
  ]

  pub owner_more : (d b c : B) (w x y : Book) (n : ℕ) → IsLater settings knows has_role stays d w b x → IsLater settings knows has_role stays b x c y → HaveCome knows b n y → AllComeBelow knows d n x → AllComeBelow knows d (n + 1) y
  owner_more d b c w x y n before l here done owner below ne = elim (cases_eq owner n) [
    | inr other ↦ λ index. come_kept d b c w x y (place_at owner index) before l (done owner (less owner n below other) (λ e. ne (e ∙ sym l.who_is)) index)
    | inl same ↦ λ index. subst (λ (q : ℕ). HasArrived knows d (place_at q index) y) (sym same) (come_from d b w x y (place_at n index) before (here index))
  ]

  pub own_skipped : (d : B) (x : Book) (n : ℕ) → n ≡ x.who → AllComeBelow knows d n x → AllComeBelow knows d (n + 1) x
  own_skipped d x n own done owner below ne = elim (cases_eq owner n) [
    | inr other ↦ done owner (less owner n below other) ne
    | inl same ↦ absurd (ne (same ∙ own))
  ]

  -- all of it was done
  pub settled_then : (d b c e : B) (w x y z : Book) → IsLater settings knows has_role stays d w b x → IsLater settings knows has_role stays b x c y → IsLater settings knows has_role stays c y e z
      → OwnAreBooked knows d x → ArrivedAreBooked knows b y → ((owner : ℕ) → owner ≢ z.who → HaveCome knows c owner z) → HasSettledAll knows d z
  settled_then d b c e w x y z first second third own arrived come =
      let two = later_on d b c w x y first second in
      record {
        own = own_on d b e w x z first (later_on b c e x y z second third) own;
        arrived = λ a index o there is kn. ⊎_elim
            (λ old. booked_on y.events z.events third.told a.entry.from a.entry.id (arrived a index o old is ((first.known (about (place_at a.entry.from index) (Decided o))).1 kn)))
            (λ new. absurd (new index o is ((two.known (about (place_at a.entry.from index) (Decided o))).1 kn)))
            (third.came a there);
        come = λ k t ne mine opened has. come_from d c w y z k two (come k.owner ne k.index) t mine opened has;
      }
