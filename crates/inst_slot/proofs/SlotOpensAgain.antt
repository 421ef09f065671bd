-- A slot that opens again from its books: its live transfers get the first places, and the books are lawful for the board.
use Rattle.std.proofs.Common.{◌≡◌, ◌≢◌, ℕ, zero, suc, ◌+◌, ◌<◌, ◌≤◌, arith, Bool, true, false, not, ◌&&◌, cond, List, [], ◌∷◌, ◌++◌, length, length-append, take, drop, take-append-drop, append-nil, inl, inr, ◌⊎◌, ⊎_elim, refl, sym, ap, ◌∙◌, subst, Option, Some, None, is_some, is_none}
use Rattle.std.specs.Prelude.{◌↔◌, nat_lt, slice_get, map, Contains}
use Rattle.std.specs.List.{filter, cons_option}
use Rattle.std.proofs.lemmas.Bool.{false≢true}
use Rattle.std.proofs.lemmas.Bool.Decides.{nat_tests}
use Rattle.std.proofs.lemmas.List.{map-append}
use Rattle.std.proofs.lemmas.List.Elements.{filter-append, filter_map-append}
use Rattle.std.proofs.lemmas.List.Sums.{length-filter}
use Rattle.std.proofs.lemmas.Option.{slice_get_within}
use Rattle.inst_base.proofs.Lists.{snoc_cases}
use Rattle.inst_base.specs.TimeLimit.{deadline_of}
use Rattle.inst_settings.specs.Settings.{HubSettings, is_participant}
use Rattle.inst_command.specs.declared.entry.Entry.{Entry}
use Rattle.inst_command.specs.declared.outcome.Outcome.{Outcome}
use Rattle.inst_command.specs.declared.outcome.Outcome.TheVariants.{TimedOut}
use Rattle.inst_terms.specs.declared.terms.Terms.{Terms}
use Rattle.inst_command.specs.declared.place.Place.{Place}
use Rattle.inst_board.specs.declared.about.About.{About}
use Rattle.inst_board.specs.declared.about.About.TheVariants.{Opened as IsOpened, HasTerms, Due, Decided}
use Rattle.inst_board.specs.declared.about.Fact.{Fact}
use Rattle.inst_board.specs.Standing.{unused, IsPlace, pending, Says, Shows, about}
use Rattle.inst_board.specs.Laws.{KnowsOpening}
use Rattle.inst_board.specs.Learning.{Learns, KnowsTruly}
use Rattle.inst_board.proofs.KnowledgeOfHolders.{learning_truly}
use Rattle.inst_journal.specs.declared.event.Event.{Event}
use Rattle.inst_journal.specs.declared.event.Event.TheVariants.{Funded, Defunded, Taken, Forwarded, Booked, Fetched, Opened}
use Rattle.inst_journal.specs.Booked.{booked}
use Rattle.inst_journal.specs.Opened.{HasOpeningsLeft, carried, is_live, takes_live, live_taken, live_submissions}
use Rattle.inst_journal.specs.Reply.{inbox, entry_of}
use Rattle.inst_journal.specs.Sound.{IsSound}
use Rattle.inst_journal.proofs.EventsCarriedOverOpening.{carried_opened}
use Rattle.inst_journal.proofs.CountsOfEvents.{submissions_within}
use Rattle.inst_journal.proofs.Soundness.{sound_push}
use Rattle.inst_ledger.proofs.HistoryEventByEvent.{fits_at_place}
use Rattle.inst_slot.specs.declared.arrival.Arrival.{Arrival}
use Rattle.inst_slot.specs.Book.{Book, place_at, terms_to, live_inbox}
use Rattle.inst_slot.specs.LawfulBoard.{KnowsEnd, IsLawfulBoard, KeepsOthers}
use Rattle.inst_slot.specs.Opening.{arrival_without_place, opened_again, MayOpenAgain, IsOfTakenSubmission, OpensPlaces}
use Rattle.inst_slot.proofs.LiveTransfersAfterEvent.{slice_get_left, filtered}
use Rattle.inst_slot.proofs.BooksOfOthersStay.{others_opening}
use Rattle.inst_slot.proofs.Spots.{is_unbooked}

-- the history with the opening is sound
pub opened_sound : (s : HubSettings) (who : ℕ) (J : List Event) → IsSound s who J → HasOpeningsLeft J → IsSound s who (J ++ Opened ∷ [])
opened_sound s who J sound few = sound_push s who J Opened sound (record { few = few })

-- the arrivals of the first events
abbrev pub arrived_of : List Event → List Event → List Arrival
arrived_of J K = map arrival_without_place (filter (λ entry. is_live entry.from entry.id J) (inbox K))

-- one more event of the history, of which this much is an arrival
arrived_more : (J K L : List Event) (x : Event) (o : Option Entry) → L ≡ K ++ x ∷ [] → entry_of x ≡ o
    → arrived_of J L ≡ arrived_of J K ++ map arrival_without_place (filter (λ entry. is_live entry.from entry.id J) (cons_option o []))
arrived_more J K L x o whole here =
    let p : Entry → Bool = λ entry. is_live entry.from entry.id J in
    ap (arrived_of J) whole
    ∙ ap (λ (l : List Entry). map arrival_without_place (filter p l)) (filter_map-append entry_of K (x ∷ []) ∙ ap (λ (o : Option Entry). inbox K ++ cons_option o []) here)
    ∙ ap (map arrival_without_place) (filter-append p (inbox K) (cons_option o []))
    ∙ map-append arrival_without_place (filter p (inbox K)) (filter p (cons_option o []))

pub arrived_still : (J K L : List Event) (x : Event) → L ≡ K ++ x ∷ [] → entry_of x ≡ None → arrived_of J L ≡ arrived_of J K
arrived_still J K L x whole here = arrived_more J K L x None whole here ∙ append-nil (arrived_of J K)

pub arrived_settled : (J K L : List Event) (x : Event) (e : Entry) → L ≡ K ++ x ∷ [] → entry_of x ≡ Some e → is_live e.from e.id J ≡ false → arrived_of J L ≡ arrived_of J K
arrived_settled J K L x e whole here settled =
    arrived_more J K L x (Some e) whole here ∙ ap (λ (b : Bool). arrived_of J K ++ map arrival_without_place (cond b (e ∷ []) [])) settled ∙ append-nil (arrived_of J K)

pub arrived_live : (J K L : List Event) (x : Event) (e : Entry) → L ≡ K ++ x ∷ [] → entry_of x ≡ Some e → is_live e.from e.id J ≡ true → arrived_of J L ≡ arrived_of J K ++ arrival_without_place e ∷ []
arrived_live J K L x e whole here live =
    arrived_more J K L x (Some e) whole here ∙ ap (λ (b : Bool). arrived_of J K ++ map arrival_without_place (cond b (e ∷ []) [])) live

pub entries_of : (xs : List Entry) → map (λ (x : Arrival). x.entry) (map arrival_without_place xs) ≡ xs
entries_of [] = refl
entries_of (x ∷ xs) = ap (λ (l : List Entry). x ∷ l) (entries_of xs)

none_placed : (xs : List Entry) (x : Arrival) → Contains (map arrival_without_place xs) x → x.index ≡ None
none_placed [] x (i, below, is) = absurd (omega arith)
none_placed (y ∷ ys) x (zero, below, is) = ap (λ (z : Arrival). z.index) (sym is)
none_placed (y ∷ ys) x (suc i, below, is) = none_placed ys x (i, omega arith, is)

-- the submissions of the first events that are live
abbrev pub taken_of : ℕ → List Event → List Event → List Event
taken_of who J K = filter (takes_live who J) K

taken_more : (who : ℕ) (J K L : List Event) (x : Event) (b : Bool) → L ≡ K ++ x ∷ [] → takes_live who J x ≡ b → taken_of who J L ≡ taken_of who J K ++ cond b (x ∷ []) []
taken_more who J K L x b whole here =
    ap (taken_of who J) whole ∙ filter-append (takes_live who J) K (x ∷ []) ∙ ap (λ (c : Bool). taken_of who J K ++ cond c (x ∷ []) []) here

pub taken_still : (who : ℕ) (J K L : List Event) (x : Event) → L ≡ K ++ x ∷ [] → takes_live who J x ≡ false → taken_of who J L ≡ taken_of who J K
taken_still who J K L x whole here = taken_more who J K L x false whole here ∙ append-nil (taken_of who J K)

pub taken_next : (who : ℕ) (J K L : List Event) (x : Event) → L ≡ K ++ x ∷ [] → takes_live who J x ≡ true → taken_of who J L ≡ taken_of who J K ++ x ∷ []
taken_next who J K L x whole here = taken_more who J K L x true whole here

-- there is a place for each of them
pub next_within : (s : HubSettings) (who : ℕ) (J : List Event) (i : ℕ) (x : Event) → carried J ≡ J → IsSound s who J → take (i + 1) J ≡ take i J ++ x ∷ [] → takes_live who J x ≡ true → length (taken_of who J (take i J)) < s.places
next_within s who J i x opened sound whole here =
    let p : Event → Bool = takes_live who J in
    let next : length (taken_of who J (take (i + 1) J)) ≡ length (taken_of who J (take i J)) + 1 =
    ap length (taken_next who J (take i J) (take (i + 1) J) x whole here) ∙ length-append (taken_of who J (take i J)) (x ∷ []) in
    let split : filter p J ≡ filter p (take (i + 1) J) ++ filter p (drop (i + 1) J) =
    ap (filter p) (sym (take-append-drop (i + 1) J)) ∙ filter-append p (take (i + 1) J) (drop (i + 1) J) in
    let sum : length (filter p J) ≡ length (filter p (take (i + 1) J)) + length (filter p (drop (i + 1) J)) =
    ap length split ∙ length-append (filter p (take (i + 1) J)) (filter p (drop (i + 1) J)) in
    let count : length (live_taken who J) ≡ live_submissions who J = length-filter (takes_live who (carried J)) J in
    let same : length (live_taken who J) ≡ length (filter p J) = ap (λ (C : List Event). length (filter (takes_live who C) J)) opened in
    let most : live_submissions who J ≤ s.places = submissions_within s who J sound in
    omega (arith, next, sum, count, same, most)

pub takes_of : (who : ℕ) (J : List Event) (x : Event) (id : List ℕ) (to cents stamp : ℕ) (o : Option Outcome) (b : Bool) → x ≡ Taken id to cents stamp → o ≡ booked who id J → is_some o ≡ b → takes_live who J x ≡ not b
takes_of who J x id to cents stamp o b is here some = ap (takes_live who J) is ∙ ap is_none (sym here) ∙ is_unbooked o b some

pub takes_none : (who : ℕ) (J : List Event) (x : Event) → ((id : List ℕ) (to cents stamp : ℕ) → x ≡ Taken id to cents stamp → ⊥) → takes_live who J x ≡ false
takes_none who J (Taken id to cents stamp) other = absurd (other id to cents stamp refl)
takes_none who J (Funded funding) other = refl
takes_none who J (Defunded funding) other = refl
takes_none who J (Forwarded from id cents deadline) other = refl
takes_none who J (Booked from id outcome) other = refl
takes_none who J (Fetched count) other = refl
takes_none who J Opened other = refl

pub forwards_none : (x : Event) → ((from : ℕ) (id : List ℕ) (cents deadline : ℕ) → x ≡ Forwarded from id cents deadline → ⊥) → entry_of x ≡ None
forwards_none (Forwarded from id cents deadline) other = absurd (other from id cents deadline refl)
forwards_none (Taken id to cents stamp) other = refl
forwards_none (Funded funding) other = refl
forwards_none (Defunded funding) other = refl
forwards_none (Booked from id outcome) other = refl
forwards_none (Fetched count) other = refl
forwards_none Opened other = refl

pub live_of : (J : List Event) (from : ℕ) (id : List ℕ) (o : Option Outcome) (b : Bool) → carried J ≡ J → o ≡ booked from id J → is_some o ≡ b → is_live from id J ≡ not b
live_of J from id o b opened here some = ap (λ (C : List Event). is_none (booked from id C)) opened ∙ ap is_none (sym here) ∙ is_unbooked o b some

-- the next place is one of the hub's
pub next_place : (t s : HubSettings) (who index : ℕ) → t ≡ s → is_participant s who ≡ true → index < s.places → IsPlace t (place_at who index)
next_place t s who index same participant below =
    subst (λ (x : HubSettings). IsPlace x (place_at who index)) (sym same)
    (ap (λ (b : Bool). b && nat_lt index s.places) participant ∙ below_true)
  where
    below_true : nat_lt index s.places ≡ true
    below_true = grind (arith, nat_tests)

last_got : (xs : List Event) (x : Event) → slice_get (xs ++ x ∷ []) (length xs) ≡ Some x
last_got [] x = refl
last_got (y ∷ ys) x = last_got ys x

shown_pending : (t : Terms) (d : ℕ) (a : About) → Says (pending t d) a → Shows (pending t d) a
shown_pending t d a says = says

pub still_there : (who : ℕ) (s : HubSettings) (taken : List Event) (x : Event) (f : Fact) → IsOfTakenSubmission s who taken f → IsOfTakenSubmission s who (taken ++ x ∷ []) f
still_there who s taken x f o = record {
  index = o.index;
  id = o.id;
  to = o.to;
  cents = o.cents;
  stamp = o.stamp;
  there = slice_get_left taken x (Taken o.id o.to o.cents o.stamp) o.index o.there;
  place_is = o.place_is;
  says = o.says;
}

-- from the first board to this one these submissions were opened
pub record OpenedSoFar {B : Type 0} (settings : B → HubSettings) (knows : B → Fact → Type 0) (has_role : B → ℕ → Type 0) (stays : B → B → Type 0) (first b : B) (s : HubSettings) (who : ℕ) (taken : List Event) : Type 0 where
  pub places : OpensPlaces knows s who taken first b
  pub same_holder : stays first b
  pub truly : (k : Place) → KnowsTruly s.margin knows b k
  pub others : KeepsOthers settings knows has_role first who b

module _ {B : Type 0} (settings : B → HubSettings) (knows : B → Fact → Type 0) (has_role : B → ℕ → Type 0) (stood : B → Place → Outcome → Type 0) (stays : B → B → Type 0)
    (stays_settings : (a b : B) → stays a b → settings b ≡ settings a) (stays_roles : (a b : B) (p : ℕ) → stays a b → has_role a p ↔ has_role b p)
    (seldom : (b : B) (k : Place) (t : Terms) (o : Outcome) → knows b (about k (HasTerms t)) → has_role b t.to → stood b k o → knows b (about k (Decided o)) ⊎ (o ≡ TimedOut))
    (stays_on : (a b c : B) → stays a b → stays b c → stays a c) where
  module _ (first b : B) (s : HubSettings) (who : ℕ) (taken : List Event) (may : MayOpenAgain settings knows has_role first s who) (o : OpenedSoFar settings knows has_role stays first b s who taken) where
    pub its_settings : settings b ≡ s
    its_settings = stays_settings first b o.same_holder ∙ may.same_settings

    -- the next place isn't opened yet
    pub next_unopened : (index : ℕ) → index ≡ length taken → ¬ knows b (about (place_at who index) IsOpened)
    next_unopened index next kn = ⊎_elim
        (λ old. may.unopened index old)
        (λ x.
        let at : index ≡ x.index = ap (λ (k : Place). k.index) x.place_is in
        let below : x.index < length taken = slice_get_within taken x.index (Taken x.id x.to x.cents x.stamp) x.there in
        absurd (omega (arith, at, below, next)))
        ((o.places.known (about (place_at who index) IsOpened)).0 kn)

    -- one more is opened
    pub opened_more : (c : B) (index : ℕ) (id : List ℕ) (to cents stamp : ℕ) → index ≡ length taken → stays b c
        → Learns (settings b).margin knows b (place_at who index) (pending (terms_to to cents id) (deadline_of s.limit stamp)) c
        → OpenedSoFar settings knows has_role stays first c s who (taken ++ Taken id to cents stamp ∷ [])
    opened_more c index id to cents stamp next holder l =
        let e : Event = Taken id to cents stamp in
        let t : Terms = terms_to to cents id in
        let d : ℕ = deadline_of s.limit stamp in
        let k : Place = place_at who index in
        record {
          places = record {
            known = λ f. (
              λ kn. ⊎_elim
                  (λ old. ⊎_elim (λ was. inl was) (λ x. inr (still_there who s taken e f x)) ((o.places.known f).0 old))
                  (λ new. inr (record {
                    index = index;
                    id = id;
                    to = to;
                    cents = cents;
                    stamp = stamp;
                    there = ap (slice_get (taken ++ e ∷ [])) next ∙ last_got taken e;
                    place_is = new.0;
                    says = new.1;
                  }))
                  (l.only f kn),
              λ is. ⊎_elim
                  (λ was. l.kept f ((o.places.known f).1 (inl was)))
                  (λ x. ⊎_elim
                  (λ old. l.kept f ((o.places.known f).1 (inr (record { index = x.index; id = x.id; to = x.to; cents = x.cents; stamp = x.stamp; there = old; place_is = x.place_is; says = x.says }))))
                  (λ new.
                  let id_is : id ≡ x.id = cc in
                  let to_is : to ≡ x.to = cc in
                  let cents_is : cents ≡ x.cents = cc in
                  let stamp_is : stamp ≡ x.stamp = cc in
                  let at : x.index ≡ index = new.0 ∙ sym next in
                  let place_is : f.place ≡ k = x.place_is ∙ ap (place_at who) at in
                  let says : Says (pending t d) f.about =
                  subst (λ (n : ℕ). Says (pending t (deadline_of s.limit n)) f.about) (sym stamp_is)
                  (subst (λ (n : ℕ). Says (pending (terms_to to n id) (deadline_of s.limit x.stamp)) f.about) (sym cents_is)
                  (subst (λ (n : ℕ). Says (pending (terms_to n x.cents id) (deadline_of s.limit x.stamp)) f.about) (sym to_is)
                  (subst (λ (n : List ℕ). Says (pending (terms_to x.to x.cents n) (deadline_of s.limit x.stamp)) f.about) (sym id_is) x.says))) in
                  subst (λ (p : Place). knows c (about p f.about)) (sym place_is) (l.shown f.about (shown_pending t d f.about says)))
                  (snoc_cases taken e (Taken x.id x.to x.cents x.stamp) x.index x.there))
                  is,
            );
            agrees = λ j name other amount moment there a kn. ⊎_elim
                (λ old. o.places.agrees j name other amount moment old a kn)
                (λ new.
                let id_is : id ≡ name = cc in
                let to_is : to ≡ other = cc in
                let cents_is : cents ≡ amount = cc in
                let stamp_is : stamp ≡ moment = cc in
                let here = subst (λ (n : ℕ). knows b (about (place_at who n) a)) (new.0 ∙ sym next) ((o.places.known (about (place_at who j) a)).1 (inl kn)) in
                subst (λ (n : ℕ). Says (pending (terms_to other amount name) (deadline_of s.limit n)) a) stamp_is
                (subst (λ (n : ℕ). Says (pending (terms_to other n name) (deadline_of s.limit stamp)) a) cents_is
                (subst (λ (n : ℕ). Says (pending (terms_to n cents name) (deadline_of s.limit stamp)) a) to_is
                (subst (λ (n : List ℕ). Says (pending (terms_to to cents n) (deadline_of s.limit stamp)) a) id_is (l.agrees a here)))))
                (snoc_cases taken e (Taken name other amount moment) j there);
          };
          same_holder = stays_on first b c o.same_holder holder;
          truly = subst (λ (m : ℕ). (j : Place) → KnowsTruly m knows c j) (ap (λ (x : HubSettings). x.margin) its_settings)
              (learning_truly (settings b).margin knows b c k (pending t d) l
              (subst (λ (m : ℕ). (j : Place) → KnowsTruly m knows b j) (sym (ap (λ (x : HubSettings). x.margin) its_settings)) o.truly));
          others = λ book ne was.
              others_opening settings knows has_role (settings b).margin stood stays stays_settings stays_roles seldom b c holder refl k t d who refl l book ne (o.others book ne was);
        }

  -- the books that are opened again are lawful for the board
  module _ (first c : B) (s : HubSettings) (who : ℕ) (J : List Event) (may : MayOpenAgain settings knows has_role first s who) (holder : stays first c) (sound : IsSound s who (J ++ Opened ∷ []))
      (truly : (k : Place) → KnowsTruly s.margin knows c k) (opens : OpensPlaces knows s who (live_taken who (J ++ Opened ∷ [])) first c) where
    abbrev K : List Event
    K = J ++ Opened ∷ []

    -- each of them is addressed to another
    to_another : (index : ℕ) (id : List ℕ) (to cents stamp : ℕ) → slice_get (live_taken who K) index ≡ Some (Taken id to cents stamp) → to ≢ who
    to_another index id to cents stamp there =
        let at = filtered (takes_live who (carried K)) K index (Taken id to cents stamp) there in
        taken_another at.0
      where
        taken_another : Contains K (Taken id to cents stamp) → to ≢ who
        taken_another (i, below, is) =
            let fits = fits_at_place s who K K i (Taken id to cents stamp) refl sound below (sym is) in
            fits.another

    pub opened_lawful : IsLawfulBoard settings knows has_role c (opened_again s who J)
    opened_lawful = record {
      same_settings = stays_settings first c holder ∙ may.same_settings;
      role = (stays_roles first c who holder).0 may.role;
      truly = truly;
      taken_known = λ index id to cents stamp there.
          let t : Terms = terms_to to cents id in
          let d : ℕ = deadline_of s.limit stamp in
          let known : (a : About) → Says (pending t d) a → knows c (about (place_at who index) a) = λ a says.
          (opens.known (about (place_at who index) a)).1 (inr (record { index = index; id = id; to = to; cents = cents; stamp = stamp; there = there; place_is = refl; says = says })) in
          let r : KnowsOpening knows c (place_at who index) t d = record { opened = known IsOpened tt; terms = known (HasTerms t) refl; due = known (Due d) refl } in r;
      only_taken = λ index kn. ⊎_elim
          (λ old. absurd (may.unopened index old))
          (λ x.
          let at : index ≡ x.index = ap (λ (k : Place). k.index) x.place_is in
          let below : x.index < length (live_taken who K) = slice_get_within (live_taken who K) x.index (Taken x.id x.to x.cents x.stamp) x.there in
          let r : index < length (live_taken who K) = omega (arith, at, below) in r)
          ((opens.known (about (place_at who index) IsOpened)).0 kn);
      arrived = entries_of (live_inbox K);
      forwarded_known = λ x index there is. let none = none_placed (live_inbox K) x there in let no : ⊥ = cc in absurd no;
      booked_known = λ from id o is live.
          let settled : booked from id (carried K) ≡ Some o = ap (booked from id) (carried_opened J) ∙ is in
          let no : false ≡ true = ap is_none (sym settled) ∙ live in
          absurd (false≢true no);
      answered = λ k t o mine answer kt kd. ⊎_elim
          (λ ended. ⊎_elim
          (λ told. absurd (may.unanswered k t o mine answer told ended))
          (λ x. absurd (to_another x.index x.id x.to x.cents x.stamp x.there (ap (λ (u : Terms). u.to) (sym x.says) ∙ mine)))
          ((opens.known (about k (HasTerms t))).0 kt))
          (λ x. absurd x.says)
          ((opens.known (about k (Decided o))).0 kd);
    }

pub may_open_first : {B : Type 0} (settings : B → HubSettings) (knows : B → Fact → Type 0) (has_role : B → ℕ → Type 0) (b : B) (who : ℕ) → has_role b who → ((f : Fact) → ¬ knows b f) → MayOpenAgain settings knows has_role b (settings b) who
may_open_first settings knows has_role b who role nothing = record {
  same_settings = refl;
  role = role;
  truly = λ j. (unused, tt, λ a h. absurd (nothing (about j a) h));
  unopened = λ index kn. nothing (about (place_at who index) IsOpened) kn;
  unanswered = λ k t o mine answer kt kd. nothing (about k (HasTerms t)) kt;
}

module _ {B : Type 0} (settings : B → HubSettings) (knows : B → Fact → Type 0) (has_role : B → ℕ → Type 0) (stays : B → B → Type 0)
    (stays_settings : (a b : B) → stays a b → settings b ≡ settings a) (stays_roles : (a b : B) (p : ℕ) → stays a b → has_role a p ↔ has_role b p) where
  -- the books of another may still be opened again
  pub others_may_open : (first c : B) (s : HubSettings) (who other : ℕ) (taken : List Event) → stays first c → other ≢ who → ((k : Place) → KnowsTruly s.margin knows c k) → OpensPlaces knows s who taken first c
      → MayOpenAgain settings knows has_role first s other → MayOpenAgain settings knows has_role c s other
  others_may_open first c s who other taken holder ne truly opens may = record {
    same_settings = stays_settings first c holder ∙ may.same_settings;
    role = (stays_roles first c other holder).0 may.role;
    truly = truly;
    unopened = λ index kn. ⊎_elim
        (λ old. may.unopened index old)
        (λ x. ne (ap (λ (k : Place). k.owner) x.place_is))
        ((opens.known (about (place_at other index) IsOpened)).0 kn);
    unanswered = λ k t o mine answer kt kd. ⊎_elim
        (λ ended. ⊎_elim
        (λ told. may.unanswered k t o mine answer told ended)
        (λ x. opens.agrees x.index x.id x.to x.cents x.stamp x.there (Decided o) (subst (λ (p : Place). knows first (about p (Decided o))) x.place_is ended))
        ((opens.known (about k (HasTerms t))).0 kt))
        (λ x. x.says)
        ((opens.known (about k (Decided o))).0 kd);
  }

-- lawful books move to another board where the same is known
pub lawful_moved : {B C : Type 0} (settings : B → HubSettings) (knows : B → Fact → Type 0) (has_role : B → ℕ → Type 0) (settings_c : C → HubSettings) (knows_c : C → Fact → Type 0) (role_c : C → ℕ → Type 0)
    (b : B) (c : C) (book : Book) → settings_c c ≡ settings b → role_c c book.who → ((f : Fact) → knows_c c f ↔ knows b f) → IsLawfulBoard settings knows has_role b book → IsLawfulBoard settings_c knows_c role_c c book
lawful_moved {B} {C} settings knows has_role settings_c knows_c role_c b c book same role known lawful = record {
  same_settings = same ∙ lawful.same_settings;
  role = role;
  truly = λ k. let t = lawful.truly k in (t.0, t.1, λ a h. t.2 a ((known (about k a)).0 h));
  taken_known = λ index id to cents stamp there. opening (place_at book.who index) (terms_to to cents id) (deadline_of book.settings.limit stamp) (lawful.taken_known index id to cents stamp there);
  only_taken = λ index h. lawful.only_taken index ((known (about (place_at book.who index) IsOpened)).0 h);
  arrived = lawful.arrived;
  forwarded_known = λ x index there is. opening (place_at x.entry.from index) (terms_to book.who x.entry.cents x.entry.id) x.entry.deadline (lawful.forwarded_known x index there is);
  booked_known = λ from id o is live.
      let e = lawful.booked_known from id o is live in
      let r : KnowsEnd knows_c c book from id o = record { index = e.index; lies = e.lies; known = (known (about (place_at from e.index) (Decided o))).1 e.known } in r;
  answered = λ k t o mine answer terms decided. lawful.answered k t o mine answer ((known (about k (HasTerms t))).0 terms) ((known (about k (Decided o))).0 decided);
}
  where
    opening : (k : Place) (t : Terms) (d : ℕ) → KnowsOpening knows b k t d → KnowsOpening knows_c c k t d
    opening k t d o = record { opened = (known (about k IsOpened)).1 o.opened; terms = (known (about k (HasTerms t))).1 o.terms; due = (known (about k (Due d))).1 o.due }
