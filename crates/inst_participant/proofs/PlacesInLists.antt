-- What is in a list at which place, and what a sound history has once.
use Rattle.std.proofs.Common.{◌≡◌, ℕ, zero, suc, ◌+◌, ◌≤◌, arith, Bool, true, false, cond, List, [], ◌∷◌, refl, sym, ap, ◌∙◌, subst, Option, Some, None, is_none, is_some, count_by}
use Rattle.std.specs.Prelude.{slice_get, map, Contains}
use Rattle.std.specs.List.{filter, cons_option}
use Rattle.std.proofs.lemmas.Bool.{false≢true}
use Rattle.std.proofs.lemmas.List.Elements.{Contains-append_right}
use Rattle.std.proofs.lemmas.List.Sums.{sum_by-cons}
use Rattle.inst_settings.specs.Settings.{HubSettings}
use Rattle.inst_command.specs.declared.entry.Entry.{Entry}
use Rattle.inst_journal.specs.declared.event.Event.{Event}
use Rattle.inst_journal.specs.declared.event.Event.TheVariants.{Taken, Forwarded}
use Rattle.inst_journal.specs.Booked.{takes, forwards}
use Rattle.inst_journal.specs.Opened.{takes_live}
use Rattle.inst_journal.specs.Reply.{inbox, entry_of}
use Rattle.inst_journal.specs.Sound.{IsSound}
use Rattle.inst_journal.proofs.KeyOnce.{taken_once, forwarded_once}
use Rattle.inst_model.proofs.TextsTestsAndFirstThings.{same_text_refl}
use Rattle.inst_slot.specs.declared.arrival.Arrival.{Arrival}
use Rattle.inst_slot.proofs.ResolutionFitsBooks.{itself_forwards}

-- what a list contains it has at some index
pub got : {A : Type 0} (xs : List A) (x : A) → Contains xs x → (i : ℕ) × (slice_get xs i ≡ Some x)
got [] x (i, below, is) = absurd (omega arith)
got (y ∷ ys) x (zero, below, is) = (zero, ap (λ z. Some z) is)
got (y ∷ ys) x (suc i, below, is) = let rest = got ys x (i, omega arith, is) in (suc rest.0, rest.1)

-- and what it has at an index it contains
pub kept : {A : Type 0} (xs : List A) (x : A) (i : ℕ) → slice_get xs i ≡ Some x → Contains xs x
kept [] x i e = let no : ⊥ = cc in absurd no
kept (y ∷ ys) x zero e = let is : y ≡ x = cc in (zero, omega arith, is)
kept (y ∷ ys) x (suc i) e = Contains-append_right (y ∷ []) ys x (kept ys x i e)

filtered_here : {A : Type 0} (y x : A) (zs : List A) (b : Bool) → b ≡ true → y ≡ x → Contains (cond b (y ∷ zs) zs) x
filtered_here y x zs true e is = (zero, omega arith, is)
filtered_here y x zs false e is = absurd (false≢true e)

filtered_later : {A : Type 0} (y x : A) (zs : List A) (b : Bool) → Contains zs x → Contains (cond b (y ∷ zs) zs) x
filtered_later y x zs true h = Contains-append_right (y ∷ []) zs x h
filtered_later y x zs false h = h

-- what passes a test is in the filtered list
pub in_filtered : {A : Type 0} (p : A → Bool) (xs : List A) (x : A) → Contains xs x → p x ≡ true → Contains (filter p xs) x
in_filtered p [] x (i, below, is) passes = absurd (omega arith)
in_filtered p (y ∷ ys) x (zero, below, is) passes = filtered_here y x (filter p ys) (p y) (ap p is ∙ passes) is
in_filtered p (y ∷ ys) x (suc i, below, is) passes = filtered_later y x (filter p ys) (p y) (in_filtered p ys x (i, omega arith, is) passes)

-- a test that passes at an index counts
pub counted_at : {A : Type 0} (p : A → Bool) (xs : List A) (i : ℕ) (x : A) → slice_get xs i ≡ Some x → p x ≡ true → 1 ≤ count_by p xs
counted_at p [] i x e h = let no : ⊥ = cc in absurd no
counted_at p (y ∷ ys) zero x e h =
    let is : y ≡ x = cc in
    let one : cond (p y) 1 0 ≡ 1 = ap {B = ℕ} (λ b. cond b 1 0) (ap p is ∙ h) in
    omega (arith, sum_by-cons (λ z. cond (p z) 1 0) y ys, one)
counted_at p (y ∷ ys) (suc i) x e h = omega (arith, sum_by-cons (λ z. cond (p z) 1 0) y ys, counted_at p ys i x e h)

-- a test that one passes at most passes at one index
pub one_index : {A : Type 0} (p : A → Bool) (xs : List A) (i j : ℕ) (x y : A) → count_by p xs ≤ 1 → slice_get xs i ≡ Some x → slice_get xs j ≡ Some y → p x ≡ true → p y ≡ true → i ≡ j
one_index p [] i j x y once e f h g = let no : ⊥ = cc in absurd no
one_index p (z ∷ zs) zero zero x y once e f h g = refl
one_index p (z ∷ zs) zero (suc j) x y once e f h g =
    let is : z ≡ x = cc in
    let one : cond (p z) 1 0 ≡ 1 = ap {B = ℕ} (λ b. cond b 1 0) (ap p is ∙ h) in
    absurd (omega (arith, sum_by-cons (λ w. cond (p w) 1 0) z zs, one, once, counted_at p zs j y f g))
one_index p (z ∷ zs) (suc i) zero x y once e f h g =
    let is : z ≡ y = cc in
    let one : cond (p z) 1 0 ≡ 1 = ap {B = ℕ} (λ b. cond b 1 0) (ap p is ∙ g) in
    absurd (omega (arith, sum_by-cons (λ w. cond (p w) 1 0) z zs, one, once, counted_at p zs i x e h))
one_index p (z ∷ zs) (suc i) (suc j) x y once e f h g =
    ap suc (one_index p zs i j x y (omega (arith, sum_by-cons (λ w. cond (p w) 1 0) z zs, once)) e f h g)

fewer_step : {A : Type 0} (q : A → Bool) (x : A) (zs : List A) (n : ℕ) (b : Bool) → count_by q zs ≤ n → count_by q (cond b (x ∷ zs) zs) ≤ cond (q x) 1 0 + n
fewer_step q x zs n true le = omega (arith, sum_by-cons (λ e. cond (q e) 1 0) x zs)
fewer_step q x zs n false le = omega arith

-- a filtered list has no more that passes
pub fewer : {A : Type 0} (p q : A → Bool) (xs : List A) → count_by q (filter p xs) ≤ count_by q xs
fewer p q [] = omega arith
fewer p q (x ∷ xs) = omega (arith, sum_by-cons (λ e. cond (q e) 1 0) x xs, fewer_step q x (filter p xs) (count_by q xs) (p x) (fewer p q xs))

pub some_same : {A : Type 0} (x y : A) → Some x ≡ Some y → x ≡ y
some_same x y e = cc

pub none_some : {A : Type 0} (o : Option A) (x : A) → o ≡ None → o ≡ Some x → ⊥
none_some o x e f = cc

pub is_none_true : {A : Type 0} (o : Option A) → is_none o ≡ true → o ≡ None
is_none_true None e = refl
is_none_true (Some x) e = let no : ⊥ = cc in absurd no

pub the_some : {A : Type 0} (o : Option A) → is_some o ≡ true → (x : A) × (o ≡ Some x)
the_some None e = let no : ⊥ = cc in absurd no
the_some (Some x) e = (x, refl)

listed_later : (x : Entry) (xs : List Entry) (o : Option Entry) → Contains xs x → Contains (cons_option o xs) x
listed_later x xs None h = h
listed_later x xs (Some y) h = Contains-append_right (y ∷ []) xs x h

-- a forwarded transfer is in the inbox
pub in_inbox : (J : List Event) (from : ℕ) (id : List ℕ) (cents d : ℕ) → Contains J (Forwarded from id cents d) → Contains (inbox J) (record { from = from; id = id; cents = cents; deadline = d })
in_inbox [] from id cents d (i, below, is) = absurd (omega arith)
in_inbox (e ∷ J) from id cents d (zero, below, is) =
    let x : Entry = record { from = from; id = id; cents = cents; deadline = d } in
    subst (λ (y : Event). Contains (cons_option (entry_of y) (inbox J)) x) (sym is) (zero, omega arith, refl)
in_inbox (e ∷ J) from id cents d (suc i, below, is) =
    let x : Entry = record { from = from; id = id; cents = cents; deadline = d } in
    listed_later x (inbox J) (entry_of e) (in_inbox J from id cents d (i, omega arith, is))

-- an arrival of each entry
pub of_entry : (A : List Arrival) (x : Entry) → Contains (map (λ (y : Arrival). y.entry) A) x → (y : Arrival) × Contains A y × (y.entry ≡ x)
of_entry [] x (i, below, is) = absurd (omega arith)
of_entry (y ∷ A) x (zero, below, is) = (y, (zero, omega arith, refl), is)
of_entry (y ∷ A) x (suc i, below, is) = let rest = of_entry A x (i, omega arith, is) in (rest.0, Contains-append_right (y ∷ []) A rest.0 rest.1, rest.2)

-- a transfer is forwarded with one amount and one deadline
pub same_forwarding : (s : HubSettings) (who : ℕ) (J : List Event) (from : ℕ) (id : List ℕ) (cents d cents_too d_too : ℕ) → IsSound s who J → Contains J (Forwarded from id cents d) → Contains J (Forwarded from id cents_too d_too) → (cents ≡ cents_too) × (d ≡ d_too)
same_forwarding s who J from id cents d cents_too d_too sound one other =
    let a = got J (Forwarded from id cents d) one in
    let b = got J (Forwarded from id cents_too d_too) other in
    let at : a.0 ≡ b.0 = one_index (forwards from id) J a.0 b.0 (Forwarded from id cents d) (Forwarded from id cents_too d_too) (forwarded_once s who from id J sound) a.1 b.1 (itself_forwards from id cents d) (itself_forwards from id cents_too d_too) in
    let same : Some (Forwarded from id cents d) ≡ Some (Forwarded from id cents_too d_too) = sym a.1 ∙ (ap (slice_get J) at ∙ b.1) in
    (ap cents_in (some_same _ _ same), ap deadline_in (some_same _ _ same))
  where
    cents_in : Event → ℕ
    cents_in (Forwarded f i n m) = n
    cents_in _ = 0

    deadline_in : Event → ℕ
    deadline_in (Forwarded f i n m) = m
    deadline_in _ = 0

-- a transfer has one place among those that were taken and live
pub one_place : (s : HubSettings) (who : ℕ) (J C : List Event) (id : List ℕ) (i j to cents stamp to_too cents_too stamp_too : ℕ) → IsSound s who J → slice_get (filter (takes_live who C) J) i ≡ Some (Taken id to cents stamp) → slice_get (filter (takes_live who C) J) j ≡ Some (Taken id to_too cents_too stamp_too) → i ≡ j
one_place s who J C id i j to cents stamp to_too cents_too stamp_too sound e f =
    one_index (takes id) (filter (takes_live who C) J) i j (Taken id to cents stamp) (Taken id to_too cents_too stamp_too) (omega (arith, fewer (takes_live who C) (takes id) J, taken_once s who id J sound)) e f (same_text_refl id) (same_text_refl id)
