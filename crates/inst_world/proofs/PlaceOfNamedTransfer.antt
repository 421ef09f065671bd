-- Where a transfer lies that is named by its identifier, and to whom it is.
use Rattle.std.proofs.Common.{◌≡◌, Bool, true, cond, inl, inr, IfSome, ℕ, zero, suc, List, [], ◌∷◌, Option, Some, None, refl, sym, ap, ◌∙◌, arith, subst, eq-eqb}
use Rattle.std.specs.Prelude.{slice_get, option_map, nat_lt, position, count_by}
use Rattle.std.specs.List.{list_all, filter}
use Rattle.std.proofs.lemmas.Bool.{and_parts, cases_Bool, false≢true}
use Rattle.inst_settings.specs.Settings.{HubSettings, is_participant}
use Rattle.inst_command.specs.declared.outcome.Outcome.{Outcome}
use Rattle.inst_command.specs.declared.step.Step.{Step}
use Rattle.inst_board.specs.declared.look.Look.{Look}
use Rattle.inst_board.specs.declared.look.Look.TheVariants.{Unused, Pending, Decided}
use Rattle.inst_command.specs.declared.place.Place.{Place}
use Rattle.inst_board.specs.Plain.{Contents, standing_at, standing_of}
use Rattle.inst_board.proofs.Places.{kept_outside}
use Rattle.inst_board.specs.Standing.{Standing, look_of, is_place}
use Rattle.inst_journal.specs.declared.event.Event.{Event}
use Rattle.inst_journal.specs.declared.event.Event.TheVariants.{Funded, Defunded, Taken, Forwarded, Booked, Fetched, Opened}
use Rattle.inst_journal.specs.Opened.{is_live, live_taken}
use Rattle.inst_journal.specs.Sound.{IsSound}
use Rattle.inst_model.specs.Opening.{Opening}
use Rattle.inst_model.specs.Transfer.{Transfer, transfers, live_transfers, at_place, deadline}
use Rattle.inst_model.specs.Hub.{history}
use Rattle.inst_model.proofs.AllHistoriesTogether.{together}
use Rattle.inst_world.specs.HasRun.{World, world_settings, StandsWith, StandsFor, HasRun, HasRunSomething, terms_of}
use Rattle.inst_world.proofs.NumbersOfStatementLines.{names, all_named}
use Rattle.inst_journal.specs.Booked.{takes}
use Rattle.inst_model.proofs.TextsTestsAndFirstThings.{same_text_refl, same_text-true}
use Rattle.inst_slot.specs.Book.{Book, place_at, place_of, place_with_index, arrived_at}
use Rattle.inst_slot.proofs.Positions.{none_passes, passes_at}
use Rattle.inst_world.proofs.PlacesOfLiveTransfers.{at_taken, terms_in, places_apart, there_counts}

takes_this : (event : Event) (x : Transfer) → terms_in (Some event) ≡ Some x → takes x.id event ≡ true
takes_this (Taken id to cents stamp) x e =
    let same : id ≡ x.id = ap (λ (o : Option Transfer). elim o as (λ _. List ℕ) [ None ↦ id | Some y ↦ y.id ]) e in
    subst (λ (i : List ℕ). takes i (Taken id to cents stamp) ≡ true) same (same_text_refl id)
takes_this (Funded funding) x e = let no : ⊥ = cc in absurd no
takes_this (Defunded funding) x e = let no : ⊥ = cc in absurd no
takes_this (Forwarded from id cents d) x e = let no : ⊥ = cc in absurd no
takes_this (Booked from id o) x e = let no : ⊥ = cc in absurd no
takes_this (Fetched count) x e = let no : ⊥ = cc in absurd no
takes_this Opened x e = let no : ⊥ = cc in absurd no

taken_there : (event : Option Event) (x : Transfer) → terms_in event ≡ Some x → (e : Event) × (event ≡ Some e) × (takes x.id e ≡ true)
taken_there None x e = let no : ⊥ = cc in absurd no
taken_there (Some event) x e = (event, refl, takes_this event x e)

terms_taken : (event : Event) (id : List ℕ) → takes id event ≡ true → (x : Transfer) × (terms_in (Some event) ≡ Some x) × (x.id ≡ id)
terms_taken (Taken other to cents stamp) id e = (record { id = other; to = to; cents = cents; stamp = stamp }, refl, same_text-true other id e)
terms_taken (Funded funding) id e = absurd (false≢true e)
terms_taken (Defunded funding) id e = absurd (false≢true e)
terms_taken (Forwarded from other cents d) id e = absurd (false≢true e)
terms_taken (Booked from other o) id e = absurd (false≢true e)
terms_taken (Fetched count) id e = absurd (false≢true e)
terms_taken Opened id e = absurd (false≢true e)

-- the first live submission with the identifier of a transfer lies at its place
named_at : (s : HubSettings) (who : ℕ) (J : List Event) (index : ℕ) (x : Transfer) → IsSound s who J → at_place who J index ≡ Some x → position (takes x.id) (live_taken who J) ≡ Some index
named_at s who J index x sound there = go (position (takes x.id) (live_taken who J)) refl
  where
    taken : (e : Event) × (slice_get (live_taken who J) index ≡ Some e) × (takes x.id e ≡ true)
    taken = taken_there (slice_get (live_taken who J) index) x (sym (at_taken who J index) ∙ there)

    go : (o : Option ℕ) → position (takes x.id) (live_taken who J) ≡ o → o ≡ Some index
    go None e =
        let none : count_by (takes x.id) (live_taken who J) ≡ 0 = none_passes (takes x.id) (live_taken who J) e in
        let one : cond (takes x.id taken.0) 1 0 ≡ 1 = ap {B = ℕ} (λ b. cond b 1 0) taken.2 in
        absurd (omega (arith, none, there_counts (λ y. cond (takes x.id y) 1 0) (live_taken who J) index taken.0 taken.1 (omega (arith, one))))
    go (Some j) e =
        let first = passes_at (takes x.id) (live_taken who J) j e in
        let t = terms_taken first.0 x.id first.2 in
        let at_j : at_place who J j ≡ Some t.0 = at_taken who J j ∙ ap terms_in first.1 ∙ t.1 in
        ap (λ (k : ℕ). Some k) (places_apart s who J j index t.0 x sound at_j there t.2)

-- so the slot of the originator finds it
pub place_found_by_name : (s : HubSettings) (book : Book) (from index : ℕ) (x : Transfer) (id : List ℕ) → book.who ≡ from → IsSound s from book.events → at_place from book.events index ≡ Some x → x.id ≡ id
    → place_of book from id ≡ Some (place_at from index)
place_found_by_name s book from index x id who sound there same =
    ap (λ (c : Bool). place_with_index from (cond c (position (takes id) (live_taken book.who book.events)) (arrived_at from id book.arrivals))) (eq-eqb from book.who (sym who))
    ∙ ap (λ (w : ℕ). place_with_index from (position (takes id) (live_taken w book.events))) who
    ∙ ap (λ (i : List ℕ). place_with_index from (position (takes i) (live_taken from book.events))) (sym same)
    ∙ ap (place_with_index from) (named_at s from book.events index x sound there)

pub some_of : (X : Option Transfer) (to : ℕ) → Some to ≡ option_map (λ (x : Transfer). x.to) X → (x : Transfer) × (X ≡ Some x) × (x.to ≡ to)
some_of None to e = let no : ⊥ = cc in absurd no
some_of (Some x) to e = let is : x.to ≡ to = cc in (x, refl, is)

-- the beneficiary that a look shows
abbrev pub to_of : Look → Option ℕ
to_of Unused = None
to_of (Pending t d) = Some t.to
to_of (Decided t o) = Some t.to

to_with : (x : Transfer) (d : ℕ) (o : Option Outcome) (p : Standing) → StandsWith (terms_of x) d o p → to_of (look_of p) ≡ Some x.to
to_with x d None p is = ap (λ (q : Standing). to_of (look_of q)) is
to_with x d (Some o) p is = ap (λ (q : Standing). to_of (look_of q)) is.1

pub to_shown : (s : HubSettings) (outcomes : List ℕ → Option Outcome) (X : Option Transfer) (p : Standing) → StandsFor s outcomes X p → to_of (look_of p) ≡ option_map (λ (x : Transfer). x.to) X
to_shown s outcomes None p is = ap (λ (q : Standing). to_of (look_of q)) is
to_shown s outcomes (Some x) p is = to_with x (deadline s x) (outcomes x.id) p is

-- each transfer that was taken is to a participant
transfers_named : (s : HubSettings) (J : List Event) → list_all (names s) J ≡ true → list_all (λ (x : Transfer). is_participant s x.to) (transfers J) ≡ true
transfers_named s [] named = refl
transfers_named s (Taken id to cents stamp ∷ J) named = let parts = and_parts (is_participant s to) (list_all (names s) J) named in rw parts.0 (transfers_named s J parts.1)
transfers_named s (Forwarded from id cents d ∷ J) named = transfers_named s J (and_parts (is_participant s from) (list_all (names s) J) named).1
transfers_named s (Funded funding ∷ J) named = transfers_named s J named
transfers_named s (Defunded funding ∷ J) named = transfers_named s J named
transfers_named s (Booked from id o ∷ J) named = transfers_named s J named
transfers_named s (Fetched count ∷ J) named = transfers_named s J named
transfers_named s (Opened ∷ J) named = transfers_named s J named

all_of_filter : (p q : Transfer → Bool) (xs : List Transfer) → list_all p xs ≡ true → list_all p (filter q xs) ≡ true
all_of_filter p q [] all = refl
all_of_filter p q (x ∷ xs) all =
    let parts = and_parts (p x) (list_all p xs) all in
    elim (cases_Bool (q x)) [
      | inl kept ↦ rw (kept, parts.0) (all_of_filter p q xs parts.1)
      | inr left ↦ rw left (all_of_filter p q xs parts.1)
    ]

all_at : (p : Transfer → Bool) (xs : List Transfer) (k : ℕ) (x : Transfer) → list_all p xs ≡ true → slice_get xs k ≡ Some x → p x ≡ true
all_at p [] k x all e = let no : ⊥ = cc in absurd no
all_at p (y ∷ xs) zero x all e = let is : y ≡ x = cc in ap p (sym is) ∙ (and_parts (p y) (list_all p xs) all).0
all_at p (y ∷ xs) (suc k) x all e = all_at p xs k x (and_parts (p y) (list_all p xs) all).1 e

-- the beneficiary of a transfer that has a place
pub to_participant : (s : HubSettings) (who : ℕ) (J : List Event) (k : ℕ) (x : Transfer) → IsSound s who J → at_place who J k ≡ Some x → is_participant s x.to ≡ true
to_participant s who J k x sound there =
    all_at (λ (y : Transfer). is_participant s y.to) (live_transfers who J) k x
    (all_of_filter (λ (y : Transfer). is_participant s y.to) (λ (y : Transfer). is_live who y.id J) (transfers J) (transfers_named s J (all_named s who J sound))) there

-- the beneficiary that is found at a place of a hub that has run something
pub found_participant : (world : World) (p k : ℕ) (found : Option ℕ) → HasRunSomething world
    → ((O : Opening) (L : List Step) → HasRun O L world → found ≡ option_map (λ (x : Transfer). x.to) (at_place p (history (world_settings world) O L p) k))
    → IfSome found (λ to. is_participant (world_settings world) to ≡ true)
found_participant world p k None was is = tt
found_participant world p k (Some to) was is =
    let s : HubSettings = world_settings world in
    let x = some_of (at_place p (history s was.0 was.1 p) k) to (is was.0 was.1 was.2) in
    ap (is_participant s) (sym x.2) ∙ to_participant s p (history s was.0 was.1 p) k x.0 ((together s was.0 was.2.opening was.1 was.2.steps).sound p) x.1

-- whose place it is that has a beneficiary
pub found_owner : (board : Contents) (place : Place) (found : Option ℕ) → found ≡ to_of (look_of (standing_at board place)) → IfSome found (λ to. is_participant board.settings place.owner ≡ true)
found_owner board place None is = tt
found_owner board place (Some to) is = elim (cases_Bool (is_place board.settings place)) [
  | inl there ↦ (and_parts (is_participant board.settings place.owner) (nat_lt place.index board.settings.places) there).0
  | inr outside ↦
      let none : to_of (look_of (standing_at board place)) ≡ None = ap (λ kept. to_of (look_of (standing_of kept))) (kept_outside board place outside) in
      let clash : Some to ≡ None = is ∙ none in
      let no : ⊥ = cc in
      absurd no
]

-- a live submission with the identifier lies where it is found
names_it : (who : ℕ) (J : List Event) (id : List ℕ) (index : ℕ) → position (takes id) (live_taken who J) ≡ Some index → (x : Transfer) × (at_place who J index ≡ Some x) × (x.id ≡ id)
names_it who J id index e =
    let first = passes_at (takes id) (live_taken who J) index e in
    let t = terms_taken first.0 id first.2 in
    (t.0, at_taken who J index ∙ ap terms_in first.1 ∙ t.1, t.2)

placed_somewhere : (from : ℕ) (found : Option ℕ) (P : ℕ → Type 0) → ((index : ℕ) → found ≡ Some index → P index) → IfSome (place_with_index from found) (λ place. P place.index)
placed_somewhere from None P at = tt
placed_somewhere from (Some index) P at = at index refl

-- so a place that the slot of the originator finds is that of a transfer with this identifier
pub name_found_at_place : (book : Book) (from : ℕ) (id : List ℕ) → book.who ≡ from →
    IfSome (place_of book from id) (λ place. (x : Transfer) × (at_place from book.events place.index ≡ Some x) × (x.id ≡ id))
name_found_at_place book from id who =
    let P : ℕ → Type 0 = λ index. (x : Transfer) × (at_place from book.events index ≡ Some x) × (x.id ≡ id) in
    let is : place_of book from id ≡ place_with_index from (position (takes id) (live_taken from book.events)) =
    ap (λ (c : Bool). place_with_index from (cond c (position (takes id) (live_taken book.who book.events)) (arrived_at from id book.arrivals))) (eq-eqb from book.who (sym who))
    ∙ ap (λ (w : ℕ). place_with_index from (position (takes id) (live_taken w book.events))) who in
    subst (λ (found : Option Place). IfSome found (λ place. P place.index)) (sym is)
    (placed_somewhere from (position (takes id) (live_taken from book.events)) P (λ index at. names_it from book.events id index at))
