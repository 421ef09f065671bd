-- A place that is found: the one arrival that awaits it gets its index, and the books stay lawful for the board.
use Rattle.std.proofs.Common.{◌≡◌, ℕ, zero, suc, ◌+◌, ◌≤◌, arith, Bool, true, false, ◌&&◌, ◌||◌, ◌==◌, cond, List, [], ◌∷◌, set, inl, inr, ◌⊎◌, ⊎_elim, refl, sym, ap, ◌∙◌, subst, Option, Some, None, is_some, is_none, count_by}
use Rattle.std.specs.Prelude.{slice_get, map, Contains}
use Rattle.std.specs.List.{list_any, filter}
use Rattle.std.specs.Cmp.Lexicographic.{same_text as text_same}
use Rattle.std.proofs.lemmas.Bool.{and_parts, cases_Bool, eqb-true, false≢true}
use Rattle.std.proofs.lemmas.List.Elements.{Contains-append_right}
use Rattle.std.proofs.lemmas.List.Sums.{sum_by-cons}
use Rattle.inst_settings.specs.Settings.{HubSettings, same_text}
use Rattle.inst_command.specs.declared.entry.Entry.{Entry}
use Rattle.inst_terms.specs.declared.terms.Terms.{Terms}
use Rattle.inst_command.specs.declared.place.Place.{Place}
use Rattle.inst_board.specs.declared.look.Look.{Look}
use Rattle.inst_board.specs.declared.look.Look.TheVariants.{Unused, Pending, Decided}
use Rattle.inst_board.specs.declared.about.Fact.{Fact}
use Rattle.inst_board.specs.Laws.{KnowsOpening}
use Rattle.inst_journal.specs.declared.event.Event.{Event}
use Rattle.inst_journal.specs.declared.event.Event.TheVariants.{Funded, Defunded, Taken, Forwarded, Booked, Fetched, Opened}
use Rattle.inst_journal.specs.Booked.{forwards, same_transfer, or_else}
use Rattle.inst_journal.specs.Opened.{is_live}
use Rattle.inst_journal.specs.Reply.{inbox}
use Rattle.inst_journal.specs.Sound.{IsSound}
use Rattle.inst_journal.proofs.KeyOnce.{forwarded_once}
use Rattle.inst_slot.specs.declared.arrival.Arrival.{Arrival}
use Rattle.inst_slot.specs.Book.{Book, place_at, terms_to, live_inbox, arrival_index, arrived_at}
use Rattle.inst_slot.specs.LawfulBoard.{IsLawfulBoard, AllAreAdopted}
use Rattle.inst_slot.specs.Opening.{is_arrival_of, is_unfound, awaits, arrival_found_at, with_found}

-- how often a transfer is forwarded, and arrives
abbrev names : ℕ → List ℕ → Entry → Bool
names from id e = same_transfer from id e.from e.id

pub step : {X : Type 0} (p : X → Bool) (x : X) (xs : List X) → count_by p (x ∷ xs) ≡ cond (p x) 1 0 + count_by p xs
step p x xs = sum_by-cons (λ y. cond (p y) 1 0) x xs

arrivals_named : (from : ℕ) (id : List ℕ) (A : List Arrival) → count_by (is_arrival_of from id) A ≡ count_by (names from id) (map (λ (x : Arrival). x.entry) A)
arrivals_named from id [] = refl
arrivals_named from id (x ∷ A) =
    let E : List Entry = map (λ (y : Arrival). y.entry) A in
    let first : count_by (is_arrival_of from id) (x ∷ A) ≡ cond (is_arrival_of from id x) 1 0 + count_by (is_arrival_of from id) A = step (is_arrival_of from id) x A in
    let second : count_by (names from id) (x.entry ∷ E) ≡ cond (is_arrival_of from id x) 1 0 + count_by (names from id) E = step (names from id) x.entry E in
    omega (arith, first, second, arrivals_named from id A)

kept_at_most : {X : Type 0} (p q : X → Bool) (x : X) (xs : List X) (b : Bool) → q x ≡ b → count_by p (filter q xs) ≤ count_by p xs → count_by p (cond b (x ∷ filter q xs) (filter q xs)) ≤ cond (p x) 1 0 + count_by p xs
kept_at_most p q x xs true here rest = omega (arith, step p x (filter q xs), rest)
kept_at_most p q x xs false here rest = omega (arith, rest)

pub fewer : {X : Type 0} (p q : X → Bool) (xs : List X) → count_by p (filter q xs) ≤ count_by p xs
fewer p q [] = omega arith
fewer p q (x ∷ xs) = omega (arith, step p x xs, kept_at_most p q x xs (q x) refl (fewer p q xs))

inbox_named : (from : ℕ) (id : List ℕ) (J : List Event) → count_by (names from id) (inbox J) ≡ count_by (forwards from id) J
inbox_named from id [] = refl
inbox_named from id (Forwarded f i n d ∷ J) =
    let e : Entry = record { from = f; id = i; cents = n; deadline = d } in
    let first : count_by (names from id) (e ∷ inbox J) ≡ cond (names from id e) 1 0 + count_by (names from id) (inbox J) = step (names from id) e (inbox J) in
    let second : count_by (forwards from id) (Forwarded f i n d ∷ J) ≡ cond (names from id e) 1 0 + count_by (forwards from id) J = step (forwards from id) (Forwarded f i n d) J in
    omega (arith, first, second, inbox_named from id J)
inbox_named from id (Taken i t n m ∷ J) = omega (arith, step (forwards from id) (Taken i t n m) J, inbox_named from id J)
inbox_named from id (Funded funding ∷ J) = omega (arith, step (forwards from id) (Funded funding) J, inbox_named from id J)
inbox_named from id (Defunded funding ∷ J) = omega (arith, step (forwards from id) (Defunded funding) J, inbox_named from id J)
inbox_named from id (Booked f i o ∷ J) = omega (arith, step (forwards from id) (Booked f i o) J, inbox_named from id J)
inbox_named from id (Fetched n ∷ J) = omega (arith, step (forwards from id) (Fetched n) J, inbox_named from id J)
inbox_named from id (Opened ∷ J) = omega (arith, step (forwards from id) Opened J, inbox_named from id J)

-- a transfer arrives once
pub arrives_once : (s : HubSettings) (who : ℕ) (J : List Event) (A : List Arrival) (from : ℕ) (id : List ℕ) → IsSound s who J → map (λ (x : Arrival). x.entry) A ≡ live_inbox J → count_by (is_arrival_of from id) A ≤ 1
arrives_once s who J A from id sound arrived =
    let same : count_by (is_arrival_of from id) A ≡ count_by (names from id) (live_inbox J) = arrivals_named from id A ∙ ap (count_by (names from id)) arrived in
    let less : count_by (names from id) (live_inbox J) ≤ count_by (names from id) (inbox J) = fewer (names from id) (λ (e : Entry). is_live e.from e.id J) (inbox J) in
    let once : count_by (forwards from id) J ≤ 1 = forwarded_once s who from id J sound in
    omega (arith, same, less, inbox_named from id J, once)

-- what passes is counted
pub counted : {X : Type 0} (p : X → Bool) (A : List X) (i : ℕ) (x : X) → slice_get A i ≡ Some x → p x ≡ true → 1 ≤ count_by p A
counted p [] i x there passes = let no : ⊥ = cc in absurd no
counted p (y ∷ A) zero x there passes =
    let same : y ≡ x = cc in
    let one : cond (p y) 1 0 ≡ 1 = ap {B = ℕ} (λ (b : Bool). cond b 1 0) (ap p same ∙ passes) in
    omega (arith, step p y A, one)
counted p (y ∷ A) (suc i) x there passes = omega (arith, step p y A, counted p A i x there passes)

-- one that isn't counted doesn't pass
passed_over : (p : Arrival → Bool) (x : Arrival) → ◌≡◌ {A = ℕ} (cond (p x) 1 0) 0 → p x ≡ false
passed_over p x none = ⊎_elim (λ yes. let one : cond (p x) 1 0 ≡ 1 = ap {B = ℕ} (λ (b : Bool). cond b 1 0) yes in absurd (omega (arith, one, none))) (λ other. other) (cases_Bool (p x))

some_index : (o : Option ℕ) → is_none o ≡ false → is_some o ≡ true
some_index None h = absurd (false≢true (sym h))
some_index (Some n) h = refl

placed_index : (x : Arrival) → is_unfound x ≡ false → is_some x.index ≡ true
placed_index x h = some_index x.index h

-- where none is unfound each has its place
pub all_found : (A : List Arrival) → count_by is_unfound A ≡ 0 → (x : Arrival) → Contains A x → is_some x.index ≡ true
all_found [] none x (i, below, is) = absurd (omega arith)
all_found (y ∷ A) none x (zero, below, is) =
    let s : count_by is_unfound (y ∷ A) ≡ cond (is_unfound y) 1 0 + count_by is_unfound A = step is_unfound y A in
    placed_index x (ap is_unfound (sym is) ∙ passed_over is_unfound y (omega (arith, s, none)))
all_found (y ∷ A) none x (suc i, below, is) =
    let s : count_by is_unfound (y ∷ A) ≡ cond (is_unfound y) 1 0 + count_by is_unfound A = step is_unfound y A in
    all_found A (omega (arith, s, none)) x (i, omega arith, is)

module _ (k : Place) (t : Terms) (deadline : ℕ) where
  another_waits : (x : Arrival) → is_arrival_of k.owner t.id x ≡ false → awaits k t deadline x ≡ false
  another_waits x other = ap (λ (b : Bool). b && is_none x.index && (x.entry.cents == t.cents) && (x.entry.deadline == deadline)) other

  still_lies : (x : Arrival) → awaits k t deadline x ≡ false → arrival_found_at k t deadline x ≡ x
  still_lies x other = ap (λ (b : Bool). cond b (record { entry = x.entry; index = Some k.index }) x) other

  pub record NothingFound (A : List Arrival) : Type 0 where
    pub none : list_any (awaits k t deadline) A ≡ false
    pub same : map (arrival_found_at k t deadline) A ≡ A

  either_false : (a b : Bool) → a ≡ false → b ≡ false → (a || b) ≡ false
  either_false true b first second = absurd (false≢true (sym first))
  either_false false b first second = second

  or_nothing : (b : Bool) → (b || false) ≡ b
  or_nothing true = refl
  or_nothing false = refl

  nothing_more : (x : Arrival) (A : List Arrival) → awaits k t deadline x ≡ false → NothingFound A → NothingFound (x ∷ A)
  nothing_more x A other rest = record {
    none = either_false (awaits k t deadline x) (list_any (awaits k t deadline) A) other rest.none;
    same = ap (λ (y : Arrival). y ∷ map (arrival_found_at k t deadline) A) (still_lies x other) ∙ ap (λ (l : List Arrival). x ∷ l) rest.same;
  }

  pub none_of_it : (A : List Arrival) → count_by (is_arrival_of k.owner t.id) A ≡ 0 → NothingFound A
  none_of_it [] none = record { none = refl; same = refl }
  none_of_it (x ∷ A) none =
      let s : count_by (is_arrival_of k.owner t.id) (x ∷ A) ≡ cond (is_arrival_of k.owner t.id x) 1 0 + count_by (is_arrival_of k.owner t.id) A = step (is_arrival_of k.owner t.id) x A in
      nothing_more x A (another_waits x (passed_over (is_arrival_of k.owner t.id) x (omega (arith, s, none)))) (none_of_it A (omega (arith, s, none)))

  -- the one arrival of the transfer
  pub record OneFound (A : List Arrival) (i : ℕ) (x : Arrival) : Type 0 where
    pub any : list_any (awaits k t deadline) A ≡ awaits k t deadline x
    pub new : map (arrival_found_at k t deadline) A ≡ set A i (arrival_found_at k t deadline x)

  pub one_of_it : (A : List Arrival) (i : ℕ) (x : Arrival) → count_by (is_arrival_of k.owner t.id) A ≤ 1 → slice_get A i ≡ Some x → is_arrival_of k.owner t.id x ≡ true → OneFound A i x
  one_of_it [] i x once there mine = let no : ⊥ = cc in absurd no
  one_of_it (y ∷ A) zero x once there mine =
      let same : y ≡ x = cc in
      let s : count_by (is_arrival_of k.owner t.id) (y ∷ A) ≡ cond (is_arrival_of k.owner t.id y) 1 0 + count_by (is_arrival_of k.owner t.id) A = step (is_arrival_of k.owner t.id) y A in
      let one : cond (is_arrival_of k.owner t.id y) 1 0 ≡ 1 = ap {B = ℕ} (λ (b : Bool). cond b 1 0) (ap (is_arrival_of k.owner t.id) same ∙ mine) in
      let rest = none_of_it A (omega (arith, s, one, once)) in
      record {
        any = ap (λ (b : Bool). awaits k t deadline y || b) rest.none ∙ or_nothing (awaits k t deadline y) ∙ ap (awaits k t deadline) same;
        new = ap (λ (l : List Arrival). arrival_found_at k t deadline y ∷ l) rest.same ∙ ap (λ (z : Arrival). arrival_found_at k t deadline z ∷ A) same;
      }
  one_of_it (y ∷ A) (suc i) x once there mine =
      let s : count_by (is_arrival_of k.owner t.id) (y ∷ A) ≡ cond (is_arrival_of k.owner t.id y) 1 0 + count_by (is_arrival_of k.owner t.id) A = step (is_arrival_of k.owner t.id) y A in
      let later : 1 ≤ count_by (is_arrival_of k.owner t.id) A = counted (is_arrival_of k.owner t.id) A i x there mine in
      let other = another_waits y (passed_over (is_arrival_of k.owner t.id) y (omega (arith, s, once, later))) in
      let rest = one_of_it A i x (omega (arith, s, once)) there mine in
      record {
        any = ap (λ (b : Bool). b || list_any (awaits k t deadline) A) other ∙ rest.any;
        new = ap (λ (z : Arrival). z ∷ map (arrival_found_at k t deadline) A) (still_lies y other) ∙ ap (λ (l : List Arrival). y ∷ l) rest.new;
      }

  same_entry : (x : Arrival) (b : Bool) → awaits k t deadline x ≡ b → (arrival_found_at k t deadline x).entry ≡ x.entry
  same_entry x true here = ap (λ (b : Bool). (cond b (record { entry = x.entry; index = Some k.index }) x).entry) here
  same_entry x false here = ap (λ (y : Arrival). y.entry) (still_lies x here)

  same_entries : (A : List Arrival) → map (λ (x : Arrival). x.entry) (map (arrival_found_at k t deadline) A) ≡ map (λ (x : Arrival). x.entry) A
  same_entries [] = refl
  same_entries (x ∷ A) =
      ap (λ (e : Entry). e ∷ map (λ (y : Arrival). y.entry) (map (arrival_found_at k t deadline) A)) (same_entry x (awaits k t deadline x) refl)
      ∙ ap (λ (l : List Entry). x.entry ∷ l) (same_entries A)

  -- what waits for the place
  pub record Waits (x : Arrival) : Type 0 where
    pub from_is : x.entry.from ≡ k.owner
    pub id_is : x.entry.id ≡ t.id
    pub none : x.index ≡ None
    pub cents_is : x.entry.cents ≡ t.cents
    pub deadline_is : x.entry.deadline ≡ deadline

  nothing_there : (o : Option ℕ) → is_none o ≡ true → o ≡ None
  nothing_there None h = refl
  nothing_there (Some n) h = absurd (false≢true h)

  pub waits : (x : Arrival) → awaits k t deadline x ≡ true → Waits x
  waits x h =
      let a = and_parts (is_arrival_of k.owner t.id x && is_none x.index && (x.entry.cents == t.cents)) (x.entry.deadline == deadline) h in
      let b = and_parts (is_arrival_of k.owner t.id x && is_none x.index) (x.entry.cents == t.cents) a.0 in
      let c = and_parts (is_arrival_of k.owner t.id x) (is_none x.index) b.0 in
      let d = and_parts (x.entry.from == k.owner) (same_text x.entry.id t.id) c.0 in
      record {
        from_is = eqb-true x.entry.from k.owner d.0;
        id_is = text_same x.entry.id t.id (sym d.1);
        none = nothing_there x.index c.1;
        cents_is = eqb-true x.entry.cents t.cents b.1;
        deadline_is = eqb-true x.entry.deadline deadline a.1;
      }

  -- an arrival after the place was found is one from before, or waited for it
  abbrev pub FoundCases : List Arrival → Arrival → Type 0
  FoundCases A x = Contains A x ⊎ ((y : Arrival) × Waits y × (x.entry ≡ y.entry) × (x.index ≡ Some k.index))

  this_case : (y x : Arrival) (A : List Arrival) (b : Bool) → awaits k t deadline y ≡ b → arrival_found_at k t deadline y ≡ x → FoundCases (y ∷ A) x
  this_case y x A true here is =
      let at : arrival_found_at k t deadline y ≡ record { entry = y.entry; index = Some k.index } = ap (λ (b : Bool). cond b (record { entry = y.entry; index = Some k.index }) y) here in
      inr (y, waits y here, ap (λ (z : Arrival). z.entry) (sym is ∙ at), ap (λ (z : Arrival). z.index) (sym is ∙ at))
  this_case y x A false here is = inl (zero, omega arith, sym (still_lies y here) ∙ is)

  pub found_cases : (A : List Arrival) (x : Arrival) → Contains (map (arrival_found_at k t deadline) A) x → FoundCases A x
  found_cases [] x (i, below, is) = absurd (omega arith)
  found_cases (y ∷ A) x (zero, below, is) = this_case y x A (awaits k t deadline y) refl is
  found_cases (y ∷ A) x (suc i, below, is) = ⊎_elim
      (λ old. inl (Contains-append_right (y ∷ []) A x old))
      (λ new. inr new)
      (found_cases A x (i, omega arith, is))

  placed_lies : (x : Arrival) (index : ℕ) → x.index ≡ Some index → (b : Bool) → awaits k t deadline x ≡ b → arrival_found_at k t deadline x ≡ x
  placed_lies x index placed true here = let w = waits x here in let no : ⊥ = cc in absurd no
  placed_lies x index placed false here = still_lies x here

  indexed : (from : ℕ) (id : List ℕ) (x : Arrival) (index : ℕ) (b : Bool) → is_arrival_of from id x ≡ b → cond b x.index None ≡ Some index → (is_arrival_of from id x ≡ true) × (x.index ≡ Some index)
  indexed from id x index true here e = (here, e)
  indexed from id x index false here e = let no : ⊥ = cc in absurd no

  later_step : (from : ℕ) (id : List ℕ) (index : ℕ) (x : Arrival) (A : List Arrival) (o : Option ℕ) → arrival_index from id x ≡ o → (arrived_at from id A ≡ Some index → 1 ≤ count_by (is_arrival_of from id) A) → or_else o (arrived_at from id A) ≡ Some index
      → 1 ≤ count_by (is_arrival_of from id) (x ∷ A)
  later_step from id index x A None here rest e = omega (arith, step (is_arrival_of from id) x A, rest e)
  later_step from id index x A (Some i) here rest e =
      let mine = indexed from id x i (is_arrival_of from id x) refl here in
      let one : cond (is_arrival_of from id x) 1 0 ≡ 1 = ap {B = ℕ} (λ (b : Bool). cond b 1 0) mine.0 in
      omega (arith, step (is_arrival_of from id) x A, one)

  -- a transfer of which an arrival has its place
  later_one : (from : ℕ) (id : List ℕ) (index : ℕ) (A : List Arrival) → arrived_at from id A ≡ Some index → 1 ≤ count_by (is_arrival_of from id) A
  later_one from id index [] e = let none : ⊥ = cc in absurd none
  later_one from id index (x ∷ A) e = later_step from id index x A (arrival_index from id x) refl (later_one from id index A) e

  another_index : (from : ℕ) (id : List ℕ) (x : Arrival) → is_arrival_of from id x ≡ false → arrival_index from id (arrival_found_at k t deadline x) ≡ None
  another_index from id x other = ap (λ (e : Entry). cond (same_transfer from id e.from e.id) (arrival_found_at k t deadline x).index None) (same_entry x (awaits k t deadline x) refl)
      ∙ ap (λ (b : Bool). cond b (arrival_found_at k t deadline x).index None) other

  still_step : (from : ℕ) (id : List ℕ) (index : ℕ) (x : Arrival) (A : List Arrival) (o : Option ℕ) → count_by (is_arrival_of from id) (x ∷ A) ≤ 1 → arrival_index from id x ≡ o
      → (count_by (is_arrival_of from id) A ≤ 1 → arrived_at from id A ≡ Some index → arrived_at from id (map (arrival_found_at k t deadline) A) ≡ Some index) → or_else o (arrived_at from id A) ≡ Some index
      → or_else (arrival_index from id (arrival_found_at k t deadline x)) (arrived_at from id (map (arrival_found_at k t deadline) A)) ≡ Some index
  still_step from id index x A None once here rest e =
      let s = step (is_arrival_of from id) x A in
      let later : 1 ≤ count_by (is_arrival_of from id) A = later_one from id index A e in
      let other = another_index from id x (passed_over (is_arrival_of from id) x (omega (arith, s, once, later))) in
      ap (λ (o : Option ℕ). or_else o (arrived_at from id (map (arrival_found_at k t deadline) A))) other ∙ rest (omega (arith, s, once)) e
  still_step from id index x A (Some i) once here rest e =
      let mine = indexed from id x i (is_arrival_of from id x) refl here in
      ap (λ (y : Arrival). or_else (arrival_index from id y) (arrived_at from id (map (arrival_found_at k t deadline) A))) (placed_lies x i mine.1 (awaits k t deadline x) refl)
      ∙ ap (λ (o : Option ℕ). or_else o (arrived_at from id (map (arrival_found_at k t deadline) A))) here ∙ e

  -- what has its place keeps it
  pub still_arrived : (from : ℕ) (id : List ℕ) (index : ℕ) (A : List Arrival) → count_by (is_arrival_of from id) A ≤ 1 → arrived_at from id A ≡ Some index → arrived_at from id (map (arrival_found_at k t deadline) A) ≡ Some index
  still_arrived from id index [] once e = e
  still_arrived from id index (x ∷ A) once e = still_step from id index x A (arrival_index from id x) once refl (still_arrived from id index A) e

  still_placed : (A : List Arrival) → ((x : Arrival) → Contains A x → is_some x.index ≡ true) → (x : Arrival) → Contains (map (arrival_found_at k t deadline) A) x → is_some x.index ≡ true
  still_placed A all x there = ⊎_elim (λ old. all x old) (λ new. ap is_some new.3) (found_cases A x there)

abbrev pub with_arrivals : Book → List Arrival → Book
with_arrivals book A = record book { arrivals = A }

module _ {B : Type 0} (settings : B → HubSettings) (knows : B → Fact → Type 0) (has_role : B → ℕ → Type 0) (c : B) (book : Book) (sound : IsSound book.settings book.who book.events) where
  -- what is pending at the place is known opened
  found_pending : (k : Place) (t : Terms) (deadline : ℕ) → KnowsOpening knows c k t deadline → t.to ≡ book.who → IsLawfulBoard settings knows has_role c book
      → IsLawfulBoard settings knows has_role c (with_arrivals book (map (arrival_found_at k t deadline) book.arrivals))
  found_pending k t deadline known mine was =
      let A : List Arrival = map (arrival_found_at k t deadline) book.arrivals in
      record {
        same_settings = was.same_settings;
        role = was.role;
        truly = was.truly;
        taken_known = was.taken_known;
        only_taken = was.only_taken;
        arrived = same_entries k t deadline book.arrivals ∙ was.arrived;
        forwarded_known = λ x index there is. ⊎_elim
            (λ old. was.forwarded_known x index old is)
            (λ new.
            let y = new.0 in
            let w = new.1 in
            let at : index ≡ k.index = cc in
            let place_is : place_at x.entry.from index ≡ k =
            ap (λ (n : ℕ). place_at x.entry.from n) at ∙ ap (λ (e : Entry). place_at e.from k.index) new.2 ∙ ap (λ (n : ℕ). place_at n k.index) w.from_is in
            let terms_is : terms_to book.who x.entry.cents x.entry.id ≡ t =
            ap (λ (e : Entry). terms_to book.who e.cents e.id) new.2 ∙ ap (λ (n : ℕ). terms_to book.who n y.entry.id) w.cents_is
            ∙ ap (λ (l : List ℕ). terms_to book.who t.cents l) w.id_is ∙ ap (λ (n : ℕ). terms_to n t.cents t.id) (sym mine) in
            let due_is : x.entry.deadline ≡ deadline = ap (λ (e : Entry). e.deadline) new.2 ∙ w.deadline_is in
            subst (λ (p : Place). KnowsOpening knows c p (terms_to book.who x.entry.cents x.entry.id) x.entry.deadline) (sym place_is)
            (subst (λ (u : Terms). KnowsOpening knows c k u x.entry.deadline) (sym terms_is)
            (subst (λ (d : ℕ). KnowsOpening knows c k t d) (sym due_is) known)))
            (found_cases k t deadline book.arrivals x there);
        booked_known = λ from id o is live.
            let end = was.booked_known from id o is live in
            record {
              index = end.index;
              lies = ⊎_elim
                  (λ own. inl (own.0, record { to = own.1.to; cents = own.1.cents; stamp = own.1.stamp; there = own.1.there }))
                  (λ arrived. inr (still_arrived k t deadline from id end.index book.arrivals (arrives_once book.settings book.who book.events book.arrivals from id sound was.arrived) arrived))
                  end.lies;
              known = end.known;
            };
        answered = was.answered;
      }

  pub found_keeps : (k : Place) (look : Look) → ((t : Terms) (d : ℕ) → look ≡ Pending t d → KnowsOpening knows c k t d) → IsLawfulBoard settings knows has_role c book
      → IsLawfulBoard settings knows has_role c (with_found book k look)
  found_keeps k Unused known was = was
  found_keeps k (Decided t o) known was = was
  found_keeps k (Pending t d) known was = either (t.to == book.who) refl
    where
      either : (b : Bool) → (t.to == book.who) ≡ b → IsLawfulBoard settings knows has_role c (cond b (with_arrivals book (map (arrival_found_at k t d) book.arrivals)) book)
      either true mine = found_pending k t d (known t d refl) (eqb-true t.to book.who mine) was
      either false other = was

pub found_adopted : (book : Book) (k : Place) (look : Look) → AllAreAdopted book → AllAreAdopted (with_found book k look)
found_adopted book k Unused all = all
found_adopted book k (Decided t o) all = all
found_adopted book k (Pending t d) all = either (t.to == book.who)
  where
    either : (b : Bool) → AllAreAdopted (cond b (with_arrivals book (map (arrival_found_at k t d) book.arrivals)) book)
    either true = still_placed k t d book.arrivals all
    either false = all

pub found_same : (book : Book) (k : Place) (look : Look) → ((with_found book k look).settings ≡ book.settings) × ((with_found book k look).who ≡ book.who)
found_same book k Unused = (refl, refl)
found_same book k (Decided t o) = (refl, refl)
found_same book k (Pending t d) = either (t.to == book.who)
  where
    either : (b : Bool) → ((cond b (with_arrivals book (map (arrival_found_at k t d) book.arrivals)) book).settings ≡ book.settings)
        × ((cond b (with_arrivals book (map (arrival_found_at k t d) book.arrivals)) book).who ≡ book.who)
    either true = (refl, refl)
    either false = (refl, refl)

-- what is made of a transfer that is pending at the place
module _ (A : List Arrival) (k : Place) (t : Terms) (deadline : ℕ) (once : count_by (is_arrival_of k.owner t.id) A ≤ 1) where
  abbrev after : List Arrival
  after = map (arrival_found_at k t deadline) A

  pub record IsNotFound : Type 0 where
    pub found : false ≡ list_any (awaits k t deadline) A
    pub kept : A ≡ after

  not_found : NothingFound k t deadline A → IsNotFound
  not_found n = record { found = sym n.none; kept = sym n.same }

  pub no_arrival : count_by (is_arrival_of k.owner t.id) A ≡ 0 → IsNotFound
  no_arrival none = not_found (none_of_it k t deadline A none)

  set_again : (A : List Arrival) (i : ℕ) (x : Arrival) → slice_get A i ≡ Some x → set A i x ≡ A
  set_again [] i x e = let no : ⊥ = cc in absurd no
  set_again (y ∷ A) zero x e = let same : y ≡ x = cc in ap (λ (z : Arrival). z ∷ A) (sym same)
  set_again (y ∷ A) (suc i) x e = ap (λ (l : List Arrival). y ∷ l) (set_again A i x e)

  pub another_arrival : (i : ℕ) (x : Arrival) → slice_get A i ≡ Some x → is_arrival_of k.owner t.id x ≡ true → awaits k t deadline x ≡ false → IsNotFound
  another_arrival i x there mine other =
      let o = one_of_it k t deadline A i x once there mine in
      not_found (record { none = o.any ∙ other; same = o.new ∙ ap (set A i) (still_lies k t deadline x other) ∙ set_again A i x there })

  pub this_arrival : (i : ℕ) (x : Arrival) → slice_get A i ≡ Some x → is_arrival_of k.owner t.id x ≡ true → awaits k t deadline x ≡ true
      → (true ≡ list_any (awaits k t deadline) A) × (set A i (record { entry = x.entry; index = Some k.index }) ≡ after)
  this_arrival i x there mine yes_it =
      let o = one_of_it k t deadline A i x once there mine in
      let new : arrival_found_at k t deadline x ≡ record { entry = x.entry; index = Some k.index } = ap (λ (b : Bool). cond b (record { entry = x.entry; index = Some k.index }) x) yes_it in
      (sym (o.any ∙ yes_it), ap (λ (y : Arrival). set A i y) (sym new) ∙ sym o.new)
