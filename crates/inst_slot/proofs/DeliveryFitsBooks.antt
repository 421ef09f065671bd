-- What a delivery forwards fits the history, and keeps what the books have to do with the board.
use Rattle.std.proofs.Common.{◌≡◌, ◌≢◌, ℕ, zero, suc, ◌+◌, ◌<◌, ◌≤◌, arith, Bool, true, false, not, ◌&&◌, ◌==◌, cond, List, [], ◌∷◌, ◌++◌, length, length-append, count_by, ⊎_elim, refl, sym, ap, ◌∙◌, subst, Option, Some, None, is_none, is_some}
use Rattle.std.specs.Prelude.{Contains, slice_get, map, nat_eq, nat_lt}
use Rattle.std.specs.List.{list_any, filter, filter_map, cons_option, IsDistinct, AllByRecursion}
use Rattle.std.proofs.lemmas.List.Elements.{Contains-append_left, Contains-append_right, Contains-append_cases, filter_map-append}
use Rattle.std.proofs.lemmas.List.{map-append}
use Rattle.std.proofs.lemmas.List.Sums.{sum_by-cons}
use Rattle.std.proofs.lemmas.Map.Steps.{length-le_from_distinct_below}
use Rattle.std.proofs.lemmas.Bool.{and_parts, and_from, or_cases, eqb-true, eq-eqb, ltb-true, false≢true}
use Rattle.std.specs.Cmp.Lexicographic.{same_text as text_same}
use Rattle.inst_board.proofs.FactsOfOneStandingAgree.{same_terms}
use Rattle.inst_settings.specs.Settings.{HubSettings, same_text, participants}
use Rattle.inst_command.specs.declared.entry.Entry.{Entry}
use Rattle.inst_command.specs.declared.outcome.Outcome.{Outcome}
use Rattle.inst_terms.specs.declared.terms.Terms.{Terms}
use Rattle.inst_command.specs.declared.place.Place.{Place}
use Rattle.inst_board.specs.declared.look.Look.{Look}
use Rattle.inst_board.specs.declared.look.Look.TheVariants.{Unused, Pending as LookPending, Decided as LookDecided}
use Rattle.inst_board.specs.declared.about.About.{About}
use Rattle.inst_board.specs.declared.about.About.TheVariants.{Opened, HasTerms}
use Rattle.inst_board.specs.declared.about.Fact.{Fact}
use Rattle.inst_board.specs.Standing.{Standing, Says, IsPlace, about}
use Rattle.inst_board.specs.Laws.{KnowsOpening}
use Rattle.inst_board.specs.Learning.{Looks}
use Rattle.inst_journal.specs.declared.event.Event.{Event}
use Rattle.inst_journal.specs.declared.event.Event.TheVariants.{Funded, Defunded, Taken, Forwarded, Booked, Fetched, Opened as OpenedEvent}
use Rattle.inst_journal.specs.Booked.{is_forwarded, booked, forwards, same_transfer}
use Rattle.inst_journal.specs.Opened.{carried, is_live, live_taken, forwards_live, live_forwarded}
use Rattle.inst_journal.specs.Reply.{inbox}
use Rattle.inst_journal.specs.Sound.{Fits, IsSound, ForwardedFits}
use Rattle.inst_journal.proofs.Soundness.{sound_induction}
use Rattle.inst_journal.proofs.KeyOnce.{forwarded_once, none_counted}
use Rattle.inst_journal.proofs.CountsOfEvents.{stranger_unbooked}
use Rattle.inst_journal.proofs.EventsCarriedOverOpening.{carried_unbooked}
use Rattle.inst_journal.proofs.OneMoreElement.{sum_by_push}
use Rattle.inst_slot.specs.declared.arrival.Arrival.{Arrival}
use Rattle.inst_slot.specs.Book.{Book, place_at, terms_to, live_inbox}
use Rattle.inst_slot.specs.LawfulBoard.{IsLawfulBoard, AllAreAdopted}
use Rattle.inst_slot.specs.Telling.{delivery, with_delivery}
use Rattle.inst_slot.proofs.LiveTransfersAfterEvent.{live_inbox_more, live_taken_still, live_push, still_booked, booked_cases}
use Rattle.inst_slot.proofs.BoardStaysLawful.{kept_opening, lies_with_arrival}
use Rattle.inst_slot.proofs.EffectOfLookAndDecision.{looked_on, saw_pending, saw_same, saw_own_pending}
use Rattle.inst_slot.proofs.ResolutionFitsBooks.{if_some, taken_below, taken_contains, itself}

pub not_true : (b : Bool) → not b ≡ true → b ≡ false
not_true true h = absurd (false≢true h)
not_true false h = refl

-- own submissions go to others
abbrev ToOthers : ℕ → List Event → Type 0
ToOthers who J = (id : List ℕ) (to cents stamp : ℕ) → Contains J (Taken id to cents stamp) → to ≢ who

only_one : {A : Type 0} (a b : A) → Contains (a ∷ []) b → a ≡ b
only_one a b (zero, below, is) = is
only_one a b (suc i, below, is) = absurd (omega arith)

takes_to_other : (s : HubSettings) (who : ℕ) (J : List Event) (e : Event) → Fits s who J e → (id : List ℕ) (to cents stamp : ℕ) → e ≡ Taken id to cents stamp → to ≢ who
takes_to_other s who J e fits id to cents stamp is =
    let f = subst (λ (x : Event). Fits s who J x) is fits in f.another

pub to_others : (s : HubSettings) (who : ℕ) (J : List Event) → IsSound s who J → ToOthers who J
to_others s who = sound_induction s who (ToOthers who)
    (λ id to cents stamp there. absurd (nowhere (Taken id to cents stamp) there))
    (λ J e sound fits before id to cents stamp there. ⊎_elim
    (λ old. before id to cents stamp old)
    (λ new. takes_to_other s who J e fits id to cents stamp (only_one e (Taken id to cents stamp) new))
    (Contains-append_cases J (e ∷ []) (Taken id to cents stamp) there))
  where
    nowhere : (e : Event) → Contains [] e → ⊥
    nowhere e (i, below, is) = absurd (omega arith)

-- when a look delivers
pub record Delivers (book : Book) (k : Place) (look : Look) (entry : Entry) : Type 0 where
  pub terms : Terms
  pub deadline : ℕ
  pub look_is : look ≡ LookPending terms deadline
  pub mine : terms.to ≡ book.who
  pub new : is_forwarded k.owner terms.id book.events ≡ false
  pub entry_is : entry ≡ record { from = k.owner; id = terms.id; cents = terms.cents; deadline = deadline }

pub delivers : (book : Book) (k : Place) (look : Look) (entry : Entry) → delivery book k look ≡ Some entry → Delivers book k look entry
delivers book k Unused entry h = let none : ⊥ = cc in absurd none
delivers book k (LookDecided t o) entry h = let none : ⊥ = cc in absurd none
delivers book k (LookPending t d) entry h =
    let x : Entry = record { from = k.owner; id = t.id; cents = t.cents; deadline = d } in
    let i = if_some ((t.to == book.who) && not (is_forwarded k.owner t.id book.events)) x entry h in
    let a = and_parts (t.to == book.who) (not (is_forwarded k.owner t.id book.events)) i.0 in
    record { terms = t; deadline = d; look_is = refl; mine = eqb-true t.to book.who a.0; new = not_true (is_forwarded k.owner t.id book.events) a.1; entry_is = sym i.1 }

-- the indexes of the places from which this originator's transfers came
abbrev index_from : ℕ → Arrival → Option ℕ
index_from from x = cond (x.entry.from == from) x.index None

abbrev indexes : ℕ → List Arrival → List ℕ
indexes from A = filter_map (index_from from) A

abbrev is_of : ℕ → List ℕ → Arrival → Bool
is_of from id x = same_transfer from id x.entry.from x.entry.id

-- how many arrivals are of a transfer, counted over the inbox
counted_entries : (from : ℕ) (id : List ℕ) (A : List Arrival) → count_by (is_of from id) A ≡ count_by (λ (e : Entry). same_transfer from id e.from e.id) (map (λ (x : Arrival). x.entry) A)
counted_entries from id [] = refl
counted_entries from id (x ∷ A) = omega (
  arith,
  sum_by-cons (λ (y : Arrival). cond (is_of from id y) 1 0) x A,
  sum_by-cons (λ (e : Entry). cond (same_transfer from id e.from e.id) 1 0) x.entry (map (λ (y : Arrival). y.entry) A),
  counted_entries from id A,
)

fewer_step : (p q : Entry → Bool) (x : Entry) (zs : List Entry) (n : ℕ) (b : Bool) → count_by q zs ≤ n → count_by q (cond b (x ∷ zs) zs) ≤ cond (q x) 1 0 + n
fewer_step p q x zs n true le = omega (arith, sum_by-cons (λ (e : Entry). cond (q e) 1 0) x zs)
fewer_step p q x zs n false le = omega arith

fewer_filtered : (p q : Entry → Bool) (xs : List Entry) → count_by q (filter p xs) ≤ count_by q xs
fewer_filtered p q [] = omega arith
fewer_filtered p q (x ∷ xs) = omega (arith, sum_by-cons (λ (e : Entry). cond (q e) 1 0) x xs, fewer_step p q x (filter p xs) (count_by q xs) (p x) (fewer_filtered p q xs))

counted_inbox : (from : ℕ) (id : List ℕ) (J : List Event) → count_by (λ (e : Entry). same_transfer from id e.from e.id) (inbox J) ≡ count_by (forwards from id) J
counted_inbox from id [] = refl
counted_inbox from id (Forwarded f i n d ∷ J) =
    let x : Entry = record { from = f; id = i; cents = n; deadline = d } in
    omega (
      arith,
      sum_by-cons (λ (e : Entry). cond (same_transfer from id e.from e.id) 1 0) x (inbox J),
      sum_by-cons (λ (e : Event). cond (forwards from id e) 1 0) (Forwarded f i n d) J,
      counted_inbox from id J,
    )
counted_inbox from id (Taken i t n m ∷ J) = omega (arith, sum_by-cons (λ (e : Event). cond (forwards from id e) 1 0) (Taken i t n m) J, counted_inbox from id J)
counted_inbox from id (Funded funding ∷ J) = omega (arith, sum_by-cons (λ (e : Event). cond (forwards from id e) 1 0) (Funded funding) J, counted_inbox from id J)
counted_inbox from id (Defunded funding ∷ J) = omega (arith, sum_by-cons (λ (e : Event). cond (forwards from id e) 1 0) (Defunded funding) J, counted_inbox from id J)
counted_inbox from id (Booked f i o ∷ J) = omega (arith, sum_by-cons (λ (e : Event). cond (forwards from id e) 1 0) (Booked f i o) J, counted_inbox from id J)
counted_inbox from id (Fetched n ∷ J) = omega (arith, sum_by-cons (λ (e : Event). cond (forwards from id e) 1 0) (Fetched n) J, counted_inbox from id J)
counted_inbox from id (OpenedEvent ∷ J) = omega (arith, sum_by-cons (λ (e : Event). cond (forwards from id e) 1 0) OpenedEvent J, counted_inbox from id J)

-- arrivals are no more of a transfer than forwardings
few_of : (from : ℕ) (id : List ℕ) (J : List Event) (A : List Arrival) → map (λ (x : Arrival). x.entry) A ≡ live_inbox J → count_by (is_of from id) A ≤ count_by (forwards from id) J
few_of from id J A same =
    let all : count_by (is_of from id) A ≡ count_by (λ (e : Entry). same_transfer from id e.from e.id) (live_inbox J) =
    counted_entries from id A ∙ ap (count_by (λ (e : Entry). same_transfer from id e.from e.id)) same in
    let some = fewer_filtered (λ (e : Entry). is_live e.from e.id J) (λ (e : Entry). same_transfer from id e.from e.id) (inbox J) in
    omega (arith, all, some, counted_inbox from id J)

-- arrivals of an originator, all of which have places
live_counted : (from : ℕ) (C J : List Event) → count_by (forwards_live from C) J ≡ count_by (λ (e : Entry). e.from == from) (filter (λ (e : Entry). is_none (booked e.from e.id C)) (inbox J))
live_counted from C [] = refl
live_counted from C (Forwarded f i n d ∷ J) =
    let x : Entry = record { from = f; id = i; cents = n; deadline = d } in
    let first = sum_by-cons (λ (e : Event). cond (forwards_live from C e) 1 0) (Forwarded f i n d) J in
    let rest = live_counted from C J in
    let zs : List Entry = filter (λ (e : Entry). is_none (booked e.from e.id C)) (inbox J) in
    let here : count_by (λ (e : Entry). e.from == from) (cond (is_none (booked f i C)) (x ∷ zs) zs) ≡ cond ((f == from) && is_none (booked f i C)) 1 0 + count_by (λ (e : Entry). e.from == from) zs =
    one_live x zs (is_none (booked f i C)) in
    let named : ((f == from) && is_none (booked from i C)) ≡ ((f == from) && is_none (booked f i C)) = same_named f from i C (f == from) refl in
    let one : cond (forwards_live from C (Forwarded f i n d)) 1 0 ≡ cond ((f == from) && is_none (booked f i C)) 1 0 = ap {B = ℕ} (λ (b : Bool). cond b 1 0) named in
    omega (arith, first, rest, here, one)
  where
    one_live : (x : Entry) (zs : List Entry) (b : Bool) → count_by (λ (e : Entry). e.from == from) (cond b (x ∷ zs) zs) ≡ cond ((x.from == from) && b) 1 0 + count_by (λ (e : Entry). e.from == from) zs
    one_live x zs true = sum_by-cons (λ (e : Entry). cond (e.from == from) 1 0) x zs ∙ ap {B = ℕ} (λ (b : Bool). cond b 1 0 + count_by (λ (e : Entry). e.from == from) zs) (and_true (x.from == from))
      where
        and_true : (b : Bool) → b ≡ (b && true)
        and_true true = refl
        and_true false = refl
    one_live x zs false = let none : cond ((x.from == from) && false) 1 0 ≡ 0 = ap {B = ℕ} (λ (b : Bool). cond b 1 0) (and_false (x.from == from)) in omega (arith, none)
      where
        and_false : (b : Bool) → (b && false) ≡ false
        and_false true = refl
        and_false false = refl

    same_named : (f from : ℕ) (i : List ℕ) (C : List Event) (b : Bool) → (f == from) ≡ b → (b && is_none (booked from i C)) ≡ (b && is_none (booked f i C))
    same_named f from i C true e = ap (λ (x : ℕ). is_none (booked x i C)) (sym (eqb-true f from e))
    same_named f from i C false e = refl
live_counted from C (Taken i t n m ∷ J) = omega (arith, sum_by-cons (λ (e : Event). cond (forwards_live from C e) 1 0) (Taken i t n m) J, live_counted from C J)
live_counted from C (Funded funding ∷ J) = omega (arith, sum_by-cons (λ (e : Event). cond (forwards_live from C e) 1 0) (Funded funding) J, live_counted from C J)
live_counted from C (Defunded funding ∷ J) = omega (arith, sum_by-cons (λ (e : Event). cond (forwards_live from C e) 1 0) (Defunded funding) J, live_counted from C J)
live_counted from C (Booked f i o ∷ J) = omega (arith, sum_by-cons (λ (e : Event). cond (forwards_live from C e) 1 0) (Booked f i o) J, live_counted from C J)
live_counted from C (Fetched n ∷ J) = omega (arith, sum_by-cons (λ (e : Event). cond (forwards_live from C e) 1 0) (Fetched n) J, live_counted from C J)
live_counted from C (OpenedEvent ∷ J) = omega (arith, sum_by-cons (λ (e : Event). cond (forwards_live from C e) 1 0) OpenedEvent J, live_counted from C J)

index_counted : (from : ℕ) (x : Arrival) (b : Bool) (o : Option ℕ) → is_some o ≡ true → length (cons_option (cond b o None) []) ≡ cond b 1 0
index_counted from x true None some = absurd (false≢true some)
index_counted from x true (Some i) some = refl
index_counted from x false o some = refl

cons_length : {A : Type 0} (o : Option A) (xs : List A) → length (cons_option o xs) ≡ length (cons_option o []) + length xs
cons_length None xs = omega arith
cons_length (Some x) xs = omega arith

indexes_counted : (from : ℕ) (A : List Arrival) → ((x : Arrival) → Contains A x → is_some x.index ≡ true) → length (indexes from A) ≡ count_by (λ (e : Entry). e.from == from) (map (λ (x : Arrival). x.entry) A)
indexes_counted from [] adopted = refl
indexes_counted from (x ∷ A) adopted =
    let rest = indexes_counted from A (λ y there. adopted y (Contains-append_right (x ∷ []) A y there)) in
    let whole = cons_length (index_from from x) (indexes from A) in
    let here = index_counted from x (x.entry.from == from) x.index (adopted x (Contains-append_left (x ∷ []) A x (zero, omega arith, refl))) in
    let count = sum_by-cons (λ (e : Entry). cond (e.from == from) 1 0) x.entry (map (λ (y : Arrival). y.entry) A) in
    omega (arith, rest, whole, here, count)

-- so many transfers of an originator are live as there are indexes
pub live_indexes : (from : ℕ) (J : List Event) (A : List Arrival) → map (λ (x : Arrival). x.entry) A ≡ live_inbox J → ((x : Arrival) → Contains A x → is_some x.index ≡ true) → live_forwarded from J ≡ length (indexes from A)
live_indexes from J A same adopted = live_counted from (carried J) J ∙ sym (indexes_counted from A adopted ∙ ap (count_by (λ (e : Entry). e.from == from)) same)

-- arrivals of which each transfer has one at most, whose places are known
pub record AreApart {B : Type 0} (knows : B → Fact → Type 0) (b : B) (who from : ℕ) (A : List Arrival) : Type 0 where
  pub known : (x : Arrival) (index : ℕ) → Contains A x → x.index ≡ Some index → (d : ℕ) × KnowsOpening knows b (place_at x.entry.from index) (terms_to who x.entry.cents x.entry.id) d
  pub once : (id : List ℕ) → count_by (is_of from id) A ≤ 1

of_itself : (x : Arrival) (from : ℕ) → x.entry.from ≡ from → is_of from x.entry.id x ≡ true
of_itself x from e = and_from (x.entry.from == from) (same_text x.entry.id x.entry.id) (eq-eqb x.entry.from from e) (itself x.entry.id)

distinct_step : (from : ℕ) (x : Arrival) (xs : List ℕ) (b : Bool) (o : Option ℕ) → (x.entry.from == from) ≡ b → x.index ≡ o
    → ((i : ℕ) → x.entry.from ≡ from → x.index ≡ Some i → AllByRecursion (λ y. nat_eq i y ≡ false) xs) → IsDistinct nat_eq xs → IsDistinct nat_eq (cons_option (cond b o None) xs)
unfolding IsDistinct
distinct_step from x xs true (Some i) own is others rest = (others i (eqb-true x.entry.from from own) is, rest)
distinct_step from x xs true None own is others rest = rest
distinct_step from x xs false o own is others rest = rest

differ_step : (from i : ℕ) (y : Arrival) (ys : List ℕ) (b : Bool) (o : Option ℕ) → (y.entry.from == from) ≡ b → y.index ≡ o
    → ((j : ℕ) → y.entry.from ≡ from → y.index ≡ Some j → nat_eq i j ≡ false) → AllByRecursion (λ z. nat_eq i z ≡ false) ys → AllByRecursion (λ z. nat_eq i z ≡ false) (cons_option (cond b o None) ys)
differ_step from i y ys true (Some j) own is here rest = (here j (eqb-true y.entry.from from own) is, rest)
differ_step from i y ys true None own is here rest = rest
differ_step from i y ys false o own is here rest = rest

abbrev one_if : Bool → ℕ
one_if b = cond b 1 0

module _ {B : Type 0} (knows : B → Fact → Type 0) (b : B) (one : (k : Place) → (p : Standing) × ((a : About) → knows b (about k a) → Says p a)) (who from : ℕ) where
  same_place : (x y : Arrival) (i j d e : ℕ) → x.entry.from ≡ from → y.entry.from ≡ from → i ≡ j
      → KnowsOpening knows b (place_at x.entry.from i) (terms_to who x.entry.cents x.entry.id) d → KnowsOpening knows b (place_at y.entry.from j) (terms_to who y.entry.cents y.entry.id) e
      → x.entry.id ≡ y.entry.id
  same_place x y i j d e fx fy ij kx ky =
      let k : Place = place_at from i in
      let s = one k in
      let t : Terms = terms_to who x.entry.cents x.entry.id in
      let u : Terms = terms_to who y.entry.cents y.entry.id in
      let a = s.1 (HasTerms t) (subst (λ (n : ℕ). knows b (about (place_at n i) (HasTerms t))) fx kx.terms) in
      let c = s.1 (HasTerms u) (subst (λ (n : ℕ). knows b (about (place_at from n) (HasTerms u))) (sym ij) (subst (λ (n : ℕ). knows b (about (place_at n j) (HasTerms u))) fy ky.terms)) in
      ap (λ (v : Terms). v.id) (same_terms s.0 t u a c)

  -- the places of others differ from this one
  differ : (x : Arrival) (i d : ℕ) (A : List Arrival) → x.entry.from ≡ from → KnowsOpening knows b (place_at x.entry.from i) (terms_to who x.entry.cents x.entry.id) d
      → ((y : Arrival) (j : ℕ) → Contains A y → y.index ≡ Some j → (e : ℕ) × KnowsOpening knows b (place_at y.entry.from j) (terms_to who y.entry.cents y.entry.id) e)
      → count_by (is_of from x.entry.id) A ≡ 0 → AllByRecursion (λ z. nat_eq i z ≡ false) (indexes from A)
  differ x i d [] own kx known none = tt
  differ x i d (y ∷ A) own kx known none =
      let more = sum_by-cons (λ (z : Arrival). cond (is_of from x.entry.id z) 1 0) y A in
      let rest : count_by (is_of from x.entry.id) A ≡ 0 = omega arith in
      let here : one_if (is_of from x.entry.id y) ≡ 0 = omega arith in
      differ_step from i y (indexes from A) (y.entry.from == from) y.index refl refl
      (λ j fy is. apart y j fy (known y j (Contains-append_left (y ∷ []) A y (zero, omega arith, refl)) is) here (nat_eq i j) refl)
      (differ x i d A own kx (λ z j there is. known z j (Contains-append_right (y ∷ []) A z there) is) rest)
    where
      apart : (y : Arrival) (j : ℕ) → y.entry.from ≡ from → (e : ℕ) × KnowsOpening knows b (place_at y.entry.from j) (terms_to who y.entry.cents y.entry.id) e → one_if (is_of from x.entry.id y) ≡ 0
          → (t : Bool) → nat_eq i j ≡ t → nat_eq i j ≡ false
      apart y j fy ky here false e = e
      apart y j fy ky here true e =
          let name = same_place x y i j d ky.0 own fy (eqb-true i j e) kx ky.1 in
          let same : is_of from x.entry.id y ≡ true = subst (λ (l : List ℕ). is_of from l y ≡ true) (sym name) (of_itself y from fy) in
          let one_here : one_if (is_of from x.entry.id y) ≡ 1 = ap one_if same in
          absurd (omega arith)

  distinct_indexes : (A : List Arrival) → AreApart knows b who from A → IsDistinct nat_eq (indexes from A)
  unfolding IsDistinct
  distinct_indexes [] apart = tt
  distinct_indexes (x ∷ A) apart =
      distinct_step from x (indexes from A) (x.entry.from == from) x.index refl refl
      (λ i own is.
      let kx = apart.known x i (Contains-append_left (x ∷ []) A x (zero, omega arith, refl)) is in
      let more = sum_by-cons (λ (z : Arrival). cond (is_of from x.entry.id z) 1 0) x A in
      let here : one_if (is_of from x.entry.id x) ≡ 1 = ap one_if (of_itself x from own) in
      let most = apart.once x.entry.id in
      let none : count_by (is_of from x.entry.id) A ≡ 0 = omega arith in
      differ x i kx.0 A own kx.1 (λ y j there e. apart.known y j (Contains-append_right (x ∷ []) A y there) e) none)
      (distinct_indexes A (record {
        known = λ y j there e. apart.known y j (Contains-append_right (x ∷ []) A y there) e;
        once = λ id. let more = sum_by-cons (λ (z : Arrival). cond (is_of from id z) 1 0) x A in let most = apart.once id in omega arith;
      }))

  below_step : (places : ℕ) (q : ℕ) (x : Arrival) (xs : List ℕ) (c : Bool) (o : Option ℕ) → (x.entry.from == from) ≡ c → x.index ≡ o
      → ((i : ℕ) → x.entry.from ≡ from → x.index ≡ Some i → i < places) → (list_any (λ y. nat_eq q y) xs ≡ true → q < places)
      → list_any (λ y. nat_eq q y) (cons_option (cond c o None) xs) ≡ true → q < places
  below_step places q x xs true (Some i) own is here rest any = ⊎_elim
      (λ same. subst (λ (n : ℕ). n < places) (sym (eqb-true q i same)) (here i (eqb-true x.entry.from from own) is))
      rest (or_cases (nat_eq q i) (list_any (λ y. nat_eq q y) xs) any)
  below_step places q x xs true None own is here rest any = rest any
  below_step places q x xs false o own is here rest any = rest any

  below : (places : ℕ) (A : List Arrival) → ((x : Arrival) (i : ℕ) → Contains A x → x.entry.from ≡ from → x.index ≡ Some i → i < places) → (q : ℕ) → list_any (λ y. nat_eq q y) (indexes from A) ≡ true → q < places
  below places [] known q any = absurd (false≢true any)
  below places (x ∷ A) known q any = below_step places q x (indexes from A) (x.entry.from == from) x.index refl refl
      (λ i own is. known x i (Contains-append_left (x ∷ []) A x (zero, omega arith, refl)) own is)
      (below places A (λ y i there own is. known y i (Contains-append_right (x ∷ []) A y there) own is) q) any

  -- they are no more than the places
  pub few_indexes : (s : HubSettings) (A : List Arrival) → AreApart knows b who from A → ((k : Place) (a : About) → knows b (about k a) → IsPlace s k) → length (indexes from A) ≤ s.places
  few_indexes s A apart places = length-le_from_distinct_below (indexes from A) s.places (distinct_indexes A apart)
      (below s.places A (λ x i there own is.
      let kn = apart.known x i there is in
      let k : Place = place_at x.entry.from i in
      ltb-true i s.places (and_parts (nat_lt x.entry.from (participants s)) (nat_lt i s.places) (places k Opened kn.1.opened)).1))

module _ {B : Type 0} (settings : B → HubSettings) (knows : B → Fact → Type 0) (has_role : B → ℕ → Type 0) where
  -- a transfer that arrives from a place that is known
  pub more_forwarded : (c : B) (book : Book) (k : Place) (id : List ℕ) (cents deadline : ℕ) → is_live k.owner id book.events ≡ true
      → KnowsOpening knows c k (terms_to book.who cents id) deadline → IsLawfulBoard settings knows has_role c book
      → IsLawfulBoard settings knows has_role c (with_delivery book k (Some (record { from = k.owner; id = id; cents = cents; deadline = deadline })))
  more_forwarded c book k id cents deadline live kn was =
      let e : Event = Forwarded k.owner id cents deadline in
      let x : Arrival = record { entry = record { from = k.owner; id = id; cents = cents; deadline = deadline }; index = Some k.index } in
      let J : List Event = book.events ++ e ∷ [] in
      let same : live_taken book.who J ≡ live_taken book.who book.events = live_taken_still book.who book.events e refl refl in
      record {
        same_settings = was.same_settings;
        role = was.role;
        truly = was.truly;
        taken_known = λ index name to amount stamp f. was.taken_known index name to amount stamp (ap (λ (l : List Event). slice_get l index) (sym same) ∙ f);
        only_taken = λ index known. subst (λ (l : List Event). index < length l) (sym same) (was.only_taken index known);
        arrived = map-append (λ (y : Arrival). y.entry) book.arrivals (x ∷ []) ∙ ap (λ (l : List Entry). l ++ x.entry ∷ []) was.arrived ∙ sym (live_inbox_more book.events k.owner id cents deadline live);
        forwarded_known = λ y index there is. ⊎_elim
            (λ old. was.forwarded_known y index old is)
            (λ new.
            let here = only_one x y new in
            let at : Some k.index ≡ Some index = ap (λ (z : Arrival). z.index) here ∙ is in
            let same_index : k.index ≡ index = cc in
            subst (λ (z : Arrival). KnowsOpening knows c (place_at z.entry.from index) (terms_to book.who z.entry.cents z.entry.id) z.entry.deadline) here
            (subst (λ (n : ℕ). KnowsOpening knows c (place_at k.owner n) (terms_to book.who cents id) deadline) same_index kn))
            (Contains-append_cases book.arrivals (x ∷ []) y there);
        booked_known = λ from name o f alive. ⊎_elim
            (λ old.
            let end = was.booked_known from name o old (sym (live_push from name book.events e refl) ∙ alive) in
            record { index = end.index; lies = lies_with_arrival book J x from name end.index same end.lies; known = end.known })
            (λ new. let none : ⊥ = cc in absurd none)
            (booked_cases from name book.events e o f);
        answered = λ j t o to an kt kd. still_booked j.owner t.id book.events e o (was.answered j t o to an kt kd);
      }

module _ {B : Type 0} (settings : B → HubSettings) (knows : B → Fact → Type 0) (has_role : B → ℕ → Type 0) (margin : ℕ) (stood : B → Place → Outcome → Type 0)
    (b c : B) (k : Place) (look : Look) (h : Looks margin knows has_role stood b k look c) (book : Book) (was : IsLawfulBoard settings knows has_role b book)
    (sound : IsSound book.settings book.who book.events) where
  -- a place of the participant's own is not delivered to it
  not_own : (entry : Entry) → Delivers book k look entry → k.owner ≢ book.who
  not_own entry l own =
      let opened = saw_own_pending settings knows has_role margin stood b c k look h l.terms l.deadline l.look_is (subst (λ (x : ℕ). has_role b x) (sym own) was.role) in
      let below = was.only_taken k.index (subst (λ (x : ℕ). knows b (about (place_at x k.index) Opened)) own opened) in
      let x = taken_below book k.index below in
      let kn = was.taken_known k.index x.id x.at.to x.at.cents x.at.stamp x.at.there in
      let u : Terms = terms_to x.at.to x.at.cents x.id in
      let same = saw_same settings knows has_role margin stood b c k look h l.terms l.deadline l.look_is u (subst (λ (n : ℕ). knows b (about (place_at n k.index) (HasTerms u))) (sym own) kn.terms) in
      to_others book.settings book.who book.events sound x.id x.at.to x.at.cents x.at.stamp (taken_contains book x.id k.index x.at) (ap (λ (v : Terms). v.to) same ∙ l.mine)

  seen : (entry : Entry) → (l : Delivers book k look entry) → KnowsOpening knows c k (terms_to book.who l.terms.cents l.terms.id) l.deadline
  seen entry l = subst (λ (t : Terms). KnowsOpening knows c k t l.deadline) (ap (λ (n : ℕ). terms_to n l.terms.cents l.terms.id) l.mine)
      (saw_pending settings knows has_role margin stood b c k look h l.terms l.deadline l.look_is)

  live : (entry : Entry) → (l : Delivers book k look entry) → is_live k.owner l.terms.id book.events ≡ true
  live entry l = ap is_none (carried_unbooked k.owner l.terms.id book.events
      (stranger_unbooked book.settings book.who k.owner l.terms.id book.events sound (λ own. absurd (not_own entry l own)) l.new))

  arrivals_apart : (entry : Entry) → (l : Delivers book k look entry) → AreApart knows c book.who k.owner (book.arrivals ++ record { entry = entry; index = Some k.index } ∷ [])
  arrivals_apart entry l =
      let x : Arrival = record { entry = entry; index = Some k.index } in
      record {
        known = λ y index there is. ⊎_elim
            (λ old. (y.entry.deadline, kept_opening settings knows has_role b c h.learns.kept (place_at y.entry.from index) (terms_to book.who y.entry.cents y.entry.id) y.entry.deadline (was.forwarded_known y index old is)))
            (λ new.
            let here = only_one x y new in
            let at : Some k.index ≡ Some index = ap (λ (z : Arrival). z.index) here ∙ is in
            let same_index : k.index ≡ index = cc in
            let first : KnowsOpening knows c (place_at entry.from index) (terms_to book.who entry.cents entry.id) l.deadline =
            subst (λ (z : Entry). KnowsOpening knows c (place_at z.from index) (terms_to book.who z.cents z.id) l.deadline) (sym l.entry_is)
            (subst (λ (n : ℕ). KnowsOpening knows c (place_at k.owner n) (terms_to book.who l.terms.cents l.terms.id) l.deadline) same_index (seen entry l)) in
            (l.deadline, subst (λ (z : Arrival). KnowsOpening knows c (place_at z.entry.from index) (terms_to book.who z.entry.cents z.entry.id) l.deadline) here first))
            (Contains-append_cases book.arrivals (x ∷ []) y there);
        once = λ id. once_of x id (is_of k.owner id x) refl;
      }
    where
      once_of : (x : Arrival) (id : List ℕ) (t : Bool) → is_of k.owner id (record { entry = entry; index = Some k.index }) ≡ t → count_by (is_of k.owner id) (book.arrivals ++ record { entry = entry; index = Some k.index } ∷ []) ≤ 1
      once_of x id true e =
          let y : Arrival = record { entry = entry; index = Some k.index } in
          let key = and_parts (entry.from == k.owner) (same_text entry.id id) e in
          let name : l.terms.id ≡ id = sym (ap (λ (z : Entry). z.id) l.entry_is) ∙ text_same entry.id id (sym key.1) in
          let none : count_by (forwards k.owner id) book.events ≡ 0 = none_counted (forwards k.owner id) book.events (subst (λ (i : List ℕ). is_forwarded k.owner i book.events ≡ false) name l.new) in
          let few = few_of k.owner id book.events book.arrivals was.arrived in
          let push = sum_by_push (λ (z : Arrival). one_if (is_of k.owner id z)) book.arrivals y in
          let one : one_if (is_of k.owner id y) ≡ 1 = ap one_if e in
          omega arith
      once_of x id false e =
          let y : Arrival = record { entry = entry; index = Some k.index } in
          let few = few_of k.owner id book.events book.arrivals was.arrived in
          let most = forwarded_once book.settings book.who k.owner id book.events sound in
          let push = sum_by_push (λ (z : Arrival). one_if (is_of k.owner id z)) book.arrivals y in
          let none : one_if (is_of k.owner id y) ≡ 0 = ap one_if e in
          omega arith

  pub delivery_fits : (entry : Entry) → delivery book k look ≡ Some entry → AllAreAdopted book
      → ((j : Place) → (p : Standing) × ((a : About) → knows c (about j a) → Says p a)) → ((j : Place) (a : About) → knows c (about j a) → IsPlace (settings c) j) → settings c ≡ settings b
      → Fits book.settings book.who book.events (Forwarded entry.from entry.id entry.cents entry.deadline)
  delivery_fits entry d adopted one places same =
      let l = delivers book k look entry d in
      let x : Arrival = record { entry = entry; index = Some k.index } in
      let settings_are : settings c ≡ book.settings = same ∙ was.same_settings in
      let place : IsPlace book.settings k = subst (λ (s : HubSettings). IsPlace s k) settings_are (places k Opened (seen entry l).opened) in
      let in_settings = and_parts (nat_lt k.owner (participants book.settings)) (nat_lt k.index book.settings.places) place in
      let few : length (indexes k.owner (book.arrivals ++ x ∷ [])) ≤ book.settings.places =
      few_indexes knows c one book.who k.owner book.settings (book.arrivals ++ x ∷ []) (arrivals_apart entry l) (λ j a kn. subst (λ (s : HubSettings). IsPlace s j) settings_are (places j a kn)) in
      let split : length (indexes k.owner (book.arrivals ++ x ∷ [])) ≡ length (indexes k.owner book.arrivals) + length (indexes k.owner (x ∷ [])) =
      ap (λ (i : List ℕ). length i) (filter_map-append (index_from k.owner) book.arrivals (x ∷ [])) ∙ length-append (indexes k.owner book.arrivals) (indexes k.owner (x ∷ [])) in
      let own : (entry.from == k.owner) ≡ true = eq-eqb entry.from k.owner (ap (λ (z : Entry). z.from) l.entry_is) in
      let here : length (indexes k.owner (x ∷ [])) ≡ 1 = index_counted k.owner x (entry.from == k.owner) (Some k.index) refl ∙ ap one_if own in
      let count = live_indexes k.owner book.events book.arrivals was.arrived adopted in
      let f : ForwardedFits book.settings book.who book.events k.owner l.terms.id = record {
        originator = in_settings.0;
        another = not_own entry l;
        new = l.new;
        place = omega arith;
      } in
      subst (λ (z : Entry). Fits book.settings book.who book.events (Forwarded z.from z.id z.cents z.deadline)) (sym l.entry_is) f

  pub delivery_keeps : (entry : Entry) → delivery book k look ≡ Some entry → settings c ≡ settings b → margin ≡ (settings b).margin → (has_role b book.who → has_role c book.who)
      → IsLawfulBoard settings knows has_role c (with_delivery book k (Some entry))
  delivery_keeps entry d same fits role =
      let l = delivers book k look entry d in
      let now = looked_on settings knows has_role margin stood b c k look h book same fits role was in
      subst (λ (z : Entry). IsLawfulBoard settings knows has_role c (with_delivery book k (Some z))) (sym l.entry_is)
      (more_forwarded settings knows has_role c book k l.terms.id l.terms.cents l.deadline (live entry l) (seen entry l) now)
