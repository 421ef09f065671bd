-- Each step keeps the rule of the locks.
use Rattle.std.proofs.Common.{◌≡◌, ℕ, eqb, cond, zero, suc, ◌+◌, ◌<◌, ◌≤◌, ◌≢◌, ◌⊎◌, Bool, List, [], ◌∷◌, ◌++◌, length, get_or, set, inl, inr, ⊎_elim, sym, refl, ap, ◌∙◌, subst, arith, length-set, replicate, get_or-set_same, eq-eqb, ne_eqb, Some, None}
use Rattle.std.specs.Prelude.{Contains, Option, slice_get, map}
use Rattle.std.proofs.lemmas.List.{append-nil, append_assoc, length-map}
use Rattle.std.proofs.lemmas.List.Elements.{Contains-append_left, Contains-append_right, Contains-append_cases}
use Rattle.std.proofs.lemmas.Option.{slice_get-get_or, get_or_from_slice_get}
use mathlib.Core.Option.{none, some, some-injective, some-ne-none}
use mathlib.Core.List.{IsPrefix}
use mathlib.Core.Logic.{dite}
use native.Mathlib.Decide.{ℕ_discrete}
use lib.ListN.{get_elem?}
use prog.Atomic.{either}
use Rattle.atomic_table.specs.Table.{State, Me, step, keeps, takes, gives, stepped, Allows, Splits, Joins, opening, rest}
use Rattle.atomic_table.proofs.Lists.{at_set, at_snoc, set_here, set_else, set_again}
use Rattle.inst_row.specs.declared.view.Front.{Front}
use Rattle.inst_row.specs.declared.view.RowView.{RowView}
use Rattle.inst_row.specs.Place.{place}
use Rattle.inst_row.specs.View.{front, fronts_at, seats_with_lock, fronts_of, first_row_view, took, fronts_below, gave, informed_row_view, left_of, parts, united_row_view, nobody}
use Rattle.inst_row.specs.Rule.{Guarded, IsSeen, takers}
use Rattle.inst_row.specs.Steps.{takes_lock, gives_lock, tells_nothing}
use Rattle.inst_row.proofs.SeenHistoryStaysSeen.{seen_set, seen_told, seen_united, seen_here, first_seen}
use Rattle.inst_row.proofs.Tally.{count-append, held-set, held-snoc, held_one, parts-set, parts-snoc, parts_two, none_held}

get_or-set_else : (l : List ℕ) (i j n : ℕ) → j ≢ i → get_or (set l i n) j 0 ≡ get_or l j 0
get_or-set_else [] i j n ne = refl
get_or-set_else (x ∷ xs) zero zero n ne = absurd (ne refl)
get_or-set_else (x ∷ xs) zero (suc j) n ne = refl
get_or-set_else (x ∷ xs) (suc i) zero n ne = refl
get_or-set_else (x ∷ xs) (suc i) (suc j) n ne = get_or-set_else xs i j n (λ e. ne (ap suc e))

one_of_one : {A : Type 0} (a b : A) → Contains (a ∷ []) b → a ≡ b
one_of_one a b (zero, below, is) = is
one_of_one a b (suc i, below, is) = absurd (omega arith)

in_cons : {A : Type 0} (a b : A) (l : List A) → Contains (a ∷ l) b → (a ≡ b) ⊎ Contains l b
in_cons a b l (zero, below, is) = inl is
in_cons a b l (suc i, below, is) = inr (i, omega arith, is)

of_front : {E : Type 0} (P : ℕ → List E → Type 0) (p : ℕ) (h : List E) (m : Front E) → front p h ≡ m → P p h → P m.lock m.history
of_front {E} P p h m e x = subst (λ (z : Front E). P z.lock z.history) e x

whole_prefix : {E : Type 0} (xs ys : List E) → xs ≡ ys → IsPrefix xs ys
whole_prefix xs ys e = ([], append-nil xs ∙ e)

longer_prefix : {E : Type 0} (xs ys zs : List E) → IsPrefix xs ys → IsPrefix ys zs → IsPrefix xs zs
longer_prefix {E} xs ys zs p q = (p.0 ++ q.0, sym (append_assoc xs p.0 q.0) ∙ (ap (λ (l : List E). l ++ q.0) p.1 ∙ q.1))

apart : (p q : ℕ) → q ≢ p → place q ≢ place p
apart p q ne e = ne (omega arith)

pub one_place : (p q : ℕ) → place p ≡ place q → p ≡ q
one_place p q e = omega arith

word_by : (words : List ℕ) (p n : ℕ) → place p < length words → (P : ℕ → Type 0) (q : ℕ) → (q ≡ p → P n) → (q ≢ p → P (get_or words (place q) 0)) → P (get_or (set words (place p) n) (place q) 0)
word_by words p n within P q here there = dite (ℕ_discrete q p)
    (λ e. subst P (sym (ap (λ i. get_or (set words (place p) n) (place i) 0) e ∙ get_or-set_same words (place p) n 0 within)) (here e))
    (λ ne. subst P (sym (get_or-set_else words (place p) (place q) n (apart p q ne))) (there ne))

abbrev is_at : ℕ → ℕ → ℕ
is_at p q = cond (eqb p q) 1 0

at_one : (p q : ℕ) → p ≡ q → is_at p q ≡ 1
at_one p q e = ap (λ (b : Bool). cond b 1 0) (eq-eqb p q e)

at_zero : (p q : ℕ) → q ≢ p → is_at p q ≡ 0
at_zero p q ne = ap (λ (b : Bool). cond b 1 0) (ne_eqb p q (λ e. ne (sym e)))

counts_in : {E : Type 0} (p : ℕ) (ms : List (Front E)) (m : Front E) → Contains ms m → m.lock ≡ p → 0 < fronts_at p ms
counts_in p [] m c e = let z = c.1 in absurd (omega arith)
counts_in {E} p (x ∷ xs) m c e = ⊎_elim
    (λ here. let one : is_at x.lock p ≡ 1 = at_one x.lock p (ap (λ (z : Front E). z.lock) here ∙ e) in omega arith)
    (λ there. let r = counts_in p xs m there e in omega arith)
    (in_cons x m xs c)

one_value : {T : Type 0} (p q : ℕ) (y z : T) (cs : List (ℕ × Option T)) → (p, Some y) ∷ cs ≡ (q, Some z) ∷ cs → (p ≡ q) × (y ≡ z)
one_value {T} p q y z cs e = (
  ap (λ (l : List (ℕ × Option T)). (get_or l 0 (p, Some y)).0) e,
  let value : Some y ≡ Some z = ap (λ (l : List (ℕ × Option T)). (get_or l 0 (p, Some y)).1) e in cc,
)

only_one : {A : Type 0} (x y : A) (i : ℕ) → get_elem? (x ∷ []) i ≡ some y → x ≡ y
only_one x y zero e = some-injective x y e
only_one x y (suc i) e = absurd (some-ne-none y (sym e))

abbrev pub blank : ℕ → List ℕ
blank n = replicate n 0

pub zeros : (n i : ℕ) → get_or (blank n) i 0 ≡ 0
zeros zero i = refl
zeros (suc n) zero = refl
zeros (suc n) (suc i) = zeros n i

one_taker : (n : ℕ) → 0 < n → takers n ≡ 1
one_taker zero h = absurd (omega arith)
one_taker (suc n) h = refl

most_takers : (n : ℕ) → takers n ≤ 1
most_takers zero = omega arith
most_takers (suc n) = omega arith

positive : (n : ℕ) → n ≢ 0 → 0 < n
positive zero ne = absurd (ne refl)
positive (suc n) ne = omega arith

-- a lock's word isn't 0 after an exchange that takes it, or finds it taken
never_free : (m : ℕ) → 0 < m → (n : ℕ) → 0 < either (eqb n 0) m n
never_free m more n = dite (ℕ_discrete n 0)
    (λ e. subst (λ b. 0 < either b m n) (sym (eq-eqb n 0 e)) more)
    (λ ne. subst (λ b. 0 < either b m n) (sym (ne_eqb n 0 ne)) (positive n ne))

as_taken : (n : ℕ) → takers (either (eqb n 1) 2 n) ≡ takers n
as_taken n = dite (ℕ_discrete n 1)
    (λ e. subst (λ b. takers (either b 2 n) ≡ takers n) (sym (eq-eqb n 1 e)) (sym (ap takers e)))
    (λ ne. subst (λ b. takers (either b 2 n) ≡ takers n) (sym (ne_eqb n 1 ne)) refl)

pub is_free : (n : ℕ) → takers n ≡ 0 → n ≡ 0
is_free zero e = refl
is_free (suc n) e = absurd (omega arith)

module _ {T E K : Type 0} (law : K → ℕ → T → Type 0) (history : T → List E) (key : K) where
  abbrev St : Type 0
  St = State (Option T) (RowView E K)

  abbrev Sat : Type 0
  Sat = Me (Option T) (RowView E K)

  abbrev G : St → Type 0
  G s = Guarded law history key s

  each_set : (l : List (RowView E K)) (id : ℕ) (w : RowView E K) (P : RowView E K → Type 0) → P w → ((i : ℕ) (v : RowView E K) → get_elem? l i ≡ some v → P v) → (i : ℕ) (v : RowView E K) → get_elem? (set l id w) i ≡ some v → P v
  each_set l id w P here there i v e = ⊎_elim (λ t. subst P t.1 here) (λ t. there i v t.1) (at_set l id i w v e)

  module _ (slots id p : ℕ) (within : place p < slots) where
    -- the lock is free, and the seat takes it
    takes_it : (m : ℕ) → 0 < m → (me : Sat) (s : St) (r : G s) → 0 < me.0.parts → length s.homes ≡ slots → get_elem? s.views id ≡ some me.0 → get_or s.words (place p) 0 ≡ 0 → (x : T) → history x ≡ r.latest p
        → G (stepped s (place p) m id me.1 (took me.0 p (history x)) (takes (place p) (Some x)))
    takes_it m set_to me s r part wide at free x is =
        let w : RowView E K = took me.0 p (history x) in
        let sized = r.sized in let long : place p < length s.words = omega arith in
        let adds : (q : ℕ) → seats_with_lock q (set s.views id w) + fronts_at q me.0.held ≡ seats_with_lock q s.views + (is_at p q + fronts_at q me.0.held) = λ q. held-set q s.views id me.0 w at in
        record {
          latest = r.latest;
          sized = length-set s.homes (place p) none ∙ (r.sized ∙ sym (length-set s.words (place p) m));
          counted = λ q. word_by s.words p m long (λ n. seats_with_lock q (set s.views id w) ≡ takers n) q
              (λ e. let a = adds q in let old : seats_with_lock q s.views ≡ 0 = r.counted q ∙ ap takers (ap (λ i. get_or s.words (place i) 0) e ∙ free) in
              let one : is_at p q ≡ 1 = at_one p q (sym e) in let now : takers m ≡ 1 = one_taker m set_to in omega arith)
              (λ ne. let a = adds q in let old : seats_with_lock q s.views ≡ takers (get_or s.words (place q) 0) = r.counted q in
              let none_more : is_at p q ≡ 0 = at_zero p q ne in omega arith);
          home = λ q below. word_by s.words p m long (λ n. n ≡ 0 → (y : T) × (get_elem? (set s.homes (place p) none) (place q) ≡ some (some (Some y))) × law key q y × (history y ≡ r.latest q)) q
              (λ e z. absurd (omega arith))
              (λ ne z. let longer : place q < length s.words = subst (λ n. place q < n) (length-set s.words (place p) m) below in let h = r.home q longer z in (h.0, set_else s.homes (place p) (place q) none (apart p q ne) ∙ h.1, h.2, h.3));
          seen = λ q below. word_by s.words p m long (λ n. n ≡ 0 → IsSeen (set s.views id w) q (r.latest q)) q
              (λ e z. absurd (omega arith))
              (λ ne z. seen_set s.views id me.0 w q (r.latest q) at (λ had. had) (λ f c. Contains-append_left me.0.fronts (front p (history x) ∷ []) f c)
              (r.seen q (subst (λ n. place q < n) (length-set s.words (place p) m) below) z));
          known = each_set s.views id w (λ v. (m : Front E) → Contains v.fronts m → IsPrefix m.history (r.latest m.lock))
              (λ m c. ⊎_elim (λ old. r.known id me.0 at m old)
              (λ new. of_front (λ q h. IsPrefix h (r.latest q)) p (history x) m (one_of_one _ m new) (whole_prefix _ _ is))
              (Contains-append_cases me.0.fronts (front p (history x) ∷ []) m c))
              r.known;
          mine = each_set s.views id w (λ v. (m : Front E) → Contains v.held m → m.history ≡ r.latest m.lock)
              (λ m c. ⊎_elim (λ new. of_front (λ q h. h ≡ r.latest q) p (history x) m new is) (λ old. r.mine id me.0 at m old) (in_cons _ m me.0.held c))
              r.mine;
          dealt = (let a = parts-set s.views id me.0 w at in let b : parts s.views ≡ 16 = r.dealt in omega arith);
          holder = each_set s.views id w (λ u. u.parts ≡ 0 → u.held ≡ []) (λ z. absurd (omega arith)) (λ i u e. r.holder i u e);
          named = each_set s.views id w (λ v. (k : K) → v.about ≡ Some k → k ≡ key) (λ k e. r.named id me.0 at k e) r.named;
        }

    -- the seat gives the lock back, with a value whose history goes on from what it found
    gives_it : (v : RowView E K) (cs : List (ℕ × Option T)) (y : T) (h : List E) (hs : List (Front E)) (s : St) (r : G s) → length s.homes ≡ slots → get_elem? s.views id ≡ some v
        → v.held ≡ front p h ∷ hs → law key p y → IsPrefix h (history y)
        → G (stepped s (place p) 0 id ((place p, Some y) ∷ cs) (gave v p (history y)) gives)
    gives_it v cs y h hs s r wide at mine lawful grows =
        let w : RowView E K = gave v p (history y) in
        let views : List (RowView E K) = set s.views id w in
        let sized = r.sized in let long : place p < length s.words = omega arith in
        let latest : ℕ → List E = λ q. cond (eqb q p) (history y) (r.latest q) in
        let latest_here : (q : ℕ) → q ≡ p → latest q ≡ history y = λ q e. ap (λ (b : Bool). cond b (history y) (r.latest q)) (eq-eqb q p e) in
        let latest_else : (q : ℕ) → q ≢ p → latest q ≡ r.latest q = λ q ne. ap (λ (b : Bool). cond b (history y) (r.latest q)) (ne_eqb q p ne) in
        let before : (q : ℕ) → fronts_at q v.held ≡ is_at p q + fronts_at q hs = λ q. ap (λ (l : List (Front E)). fronts_at q l) mine in
        let after : (q : ℕ) → fronts_at q w.held ≡ fronts_at q hs = λ q. ap (λ (l : List (Front E)). fronts_at q (fronts_below l)) mine in
        let adds : (q : ℕ) → seats_with_lock q views + fronts_at q v.held ≡ seats_with_lock q s.views + fronts_at q w.held = λ q. held-set q s.views id v w at in
        let found : h ≡ r.latest p = r.mine id v at (front p h) (subst (λ (l : List (Front E)). Contains l (front p h)) (sym mine) (0, omega arith, refl)) in
        let mine_one : is_at p p ≡ 1 = at_one p p refl in
        let free : seats_with_lock p views ≡ 0 = (let a = adds p in let b = before p in let c = after p in let d : seats_with_lock p s.views ≡ takers (get_or s.words (place p) 0) = r.counted p in let f = most_takers (get_or s.words (place p) 0) in omega arith) in
        let part : 0 < v.parts = positive v.parts (λ z. let none : v.held ≡ [] = r.holder id v at z in let no : ⊥ = cc in no) in
        let not_p : (i : ℕ) (u : RowView E K) → get_elem? views i ≡ some u → (m : Front E) → Contains u.held m → m.lock ≢ p =
        λ i u e m c is. (let one = held_one p views i u e in let more = counts_in p u.held m c is in absurd (omega arith)) in
        let seen : (m : Front E) → IsPrefix m.history (r.latest m.lock) → IsPrefix m.history (latest m.lock) = λ m pre. dite (ℕ_discrete m.lock p)
        (λ e. subst (λ l. IsPrefix m.history l) (sym (latest_here m.lock e)) (longer_prefix m.history h (history y) (subst (λ l. IsPrefix m.history l) (ap r.latest e ∙ sym found) pre) grows))
        (λ ne. subst (λ l. IsPrefix m.history l) (sym (latest_else m.lock ne)) pre) in
        let was_mine : (m : Front E) → Contains w.held m → m.history ≡ r.latest m.lock = λ m c. r.mine id v at m (subst (λ (l : List (Front E)). Contains l m) (sym mine)
        (let in_hs : Contains hs m = subst (λ (l : List (Front E)). Contains (fronts_below l) m) mine c in (suc in_hs.0, (let b = in_hs.1 in omega arith), in_hs.2))) in
        record {
          latest = latest;
          sized = length-set s.homes (place p) (some (Some y)) ∙ (r.sized ∙ sym (length-set s.words (place p) 0));
          counted = λ q. word_by s.words p 0 long (λ n. seats_with_lock q views ≡ takers n) q
              (λ e. ap (λ i. seats_with_lock i views) e ∙ free)
              (λ ne. let a = adds q in let b = before q in let c = after q in let old : seats_with_lock q s.views ≡ takers (get_or s.words (place q) 0) = r.counted q in
              let none_more : is_at p q ≡ 0 = at_zero p q ne in omega arith);
          home = λ q below. word_by s.words p 0 long (λ n. n ≡ 0 → (x : T) × (get_elem? (set s.homes (place p) (some (Some y))) (place q) ≡ some (some (Some x))) × law key q x × (history x ≡ latest q)) q
              (λ e z. (y, ap (λ i. get_elem? (set s.homes (place p) (some (Some y))) (place i)) e ∙ set_here s.homes (place p) (some (Some y)) (omega arith), subst (λ i. law key i y) (sym e) lawful, sym (latest_here q e)))
              (λ ne z. let longer : place q < length s.words = subst (λ n. place q < n) (length-set s.words (place p) 0) below in let f = r.home q longer z in (f.0, set_else s.homes (place p) (place q) (some (Some y)) (apart p q ne) ∙ f.1, f.2, f.3 ∙ sym (latest_else q ne)));
          seen = λ q below. word_by s.words p 0 long (λ n. n ≡ 0 → IsSeen views q (latest q)) q
              (λ e z. subst (λ l. IsSeen views q l) (sym (latest_here q e)) (subst (λ i. IsSeen views i (history y)) (sym e)
              (seen_here s.views id v w p (history y) at part (Contains-append_right v.fronts (front p (history y) ∷ []) (front p (history y)) (0, omega arith, refl)))))
              (λ ne z. subst (λ l. IsSeen views q l) (sym (latest_else q ne))
              (seen_set s.views id v w q (r.latest q) at (λ had. had) (λ f c. Contains-append_left v.fronts (front p (history y) ∷ []) f c)
              (r.seen q (subst (λ n. place q < n) (length-set s.words (place p) 0) below) z)));
          known = each_set s.views id w (λ u. (m : Front E) → Contains u.fronts m → IsPrefix m.history (latest m.lock))
              (λ m c. ⊎_elim (λ old. seen m (r.known id v at m old))
              (λ new. of_front (λ q l. IsPrefix l (latest q)) p (history y) m (one_of_one _ m new) (whole_prefix _ _ (sym (latest_here p refl))))
              (Contains-append_cases v.fronts (front p (history y) ∷ []) m c))
              (λ i u e m c. seen m (r.known i u e m c));
          mine = λ i u e m c. each_set s.views id w (λ u. (m : Front E) → Contains u.held m → m.history ≡ r.latest m.lock) was_mine r.mine i u e m c ∙ sym (latest_else m.lock (not_p i u e m c));
          dealt = (let a = parts-set s.views id v w at in let b : parts s.views ≡ 16 = r.dealt in omega arith);
          holder = each_set s.views id w (λ u. u.parts ≡ 0 → u.held ≡ []) (λ z. ap fronts_below (r.holder id v at z)) (λ i u e. r.holder i u e);
          named = each_set s.views id w (λ u. (k : K) → u.about ≡ Some k → k ≡ key) (λ k e. r.named id v at k e) r.named;
        }

  module _ (slots id p : ℕ) (within : place p < slots) where
    -- the word says something else, of a lock that as many seats have
    says_it : (m : ℕ) → (s : St) → takers m ≡ takers (get_or s.words (place p) 0) → G s → length s.homes ≡ slots → (v : RowView E K) → get_elem? s.views id ≡ some v
        → G record { words = set s.words (place p) m; homes = s.homes; views = set s.views id v }
    says_it m s alike r wide v at =
        let sized = r.sized in let long : place p < length s.words = omega arith in
        let here : (q : ℕ) → q ≡ p → takers (get_or s.words (place q) 0) ≡ takers m = λ q e. ap takers (ap (λ i. get_or s.words (place i) 0) e) ∙ sym alike in
        subst (λ (l : List (RowView E K)). G record { words = set s.words (place p) m; homes = s.homes; views = l }) (sym (set_again s.views id v at)) record {
          latest = r.latest;
          sized = r.sized ∙ sym (length-set s.words (place p) m);
          counted = λ q. word_by s.words p m long (λ n. seats_with_lock q s.views ≡ takers n) q (λ e. r.counted q ∙ here q e) (λ ne. r.counted q);
          home = λ q below. word_by s.words p m long (λ n. n ≡ 0 → (y : T) × (get_elem? s.homes (place q) ≡ some (some (Some y))) × law key q y × (history y ≡ r.latest q)) q
              (λ e z. r.home q (subst (λ n. place q < n) (length-set s.words (place p) m) below) (is_free _ (here q e ∙ ap takers z)))
              (λ ne z. r.home q (subst (λ n. place q < n) (length-set s.words (place p) m) below) z);
          seen = λ q below. word_by s.words p m long (λ n. n ≡ 0 → IsSeen s.views q (r.latest q)) q
              (λ e z. r.seen q (subst (λ n. place q < n) (length-set s.words (place p) m) below) (is_free _ (here q e ∙ ap takers z)))
              (λ ne z. r.seen q (subst (λ n. place q < n) (length-set s.words (place p) m) below) z);
          known = r.known;
          mine = r.mine;
          dealt = r.dealt;
          holder = r.holder;
          named = r.named;
        }

    pub waits_rule : (me : Sat) → Allows (G) slots id me (place p) (λ n. either (eqb n 1) 2 n) (tells_nothing (step slots (place p) 0 0 none) me)
    waits_rule me s r wide at _ = let n : ℕ = get_or s.words (place p) 0 in
        (me.0, keeps, tt, says_it (either (eqb n 1) 2 n) s (as_taken n) r wide me.0 at, (refl, refl))

    pub takes_rule : (m : ℕ) → 0 < m → (me : Sat) → 0 < me.0.parts → Allows (G) slots id me (place p) (λ n. either (eqb n 0) m n) (takes_lock law history (step slots (place p) 0 0 none) me)
    takes_rule m more me part s r wide at _ = let n : ℕ = get_or s.words (place p) 0 in let next : ℕ = either (eqb n 0) m n in let taken : 0 < next = never_free m more n in dite (ℕ_discrete n 0)
        (λ hit.
        let sized = r.sized in
        let h = r.home p (omega arith) hit in
        let w : RowView E K = took me.0 p (history h.0) in (
          w,
          takes (place p) (Some h.0),
          h.1,
          takes_it slots id p within next taken me s r part wide at hit h.0 h.3,
          (
            (λ z q e. subst (λ o. (x : T) × ((k : K) → me.0.about ≡ Some k → law k o x) × ((f : Front E) → Contains me.0.fronts f → f.lock ≡ o → IsPrefix f.history (history x))
                × (w ≡ took me.0 o (history x)) × ((place p, Some h.0) ∷ me.1 ≡ (place o, Some x) ∷ me.1)) (one_place p q e) (
                  h.0,
                  (λ k e. subst (λ j. law j p h.0) (sym (r.named id me.0 at k e)) h.2),
                  (λ f c e. subst (λ l. IsPrefix f.history l) (ap r.latest e ∙ sym h.3) (r.known id me.0 at f c)),
                  refl,
                  refl,
                )),
            λ nz. absurd (nz hit),
          ),
        ))
        (λ miss. (
          me.0,
          keeps,
          tt,
          says_it next s (one_taker next taken ∙ sym (one_taker n (positive n miss))) r wide me.0 at,
          ((λ z q e. absurd (miss z)), λ nz. (refl, refl)),
        ))

    pub gives_rule : (me : Sat) (y : T) (h : List E) (hs : List (Front E)) (k : K) → me.1 ≡ (place p, Some y) ∷ rest me.1 → me.0.held ≡ front p h ∷ hs → me.0.about ≡ Some k → law k p y → IsPrefix h (history y)
        → Allows (G) slots id me (place p) (λ _. 0) (λ _. gives_lock history (step slots (place p) 0 0 none) me 0)
    gives_rule me y h hs k carries mine about lawful grows s r wide at _ =
        let w : RowView E K = gave me.0 p (history y) in (
          w,
          gives,
          tt,
          subst (λ (cs : List (ℕ × Option T)). G (stepped s (place p) 0 id cs w gives)) (sym carries)
              (gives_it slots id p within me.0 (rest me.1) y h hs s r wide at mine (subst (λ j. law j p y) (r.named id me.0 at k about) lawful) grows),
          λ q z e. (let one = one_value (place p) (place q) y z (rest me.1) (sym carries ∙ e) in
              (ap (λ (x : T). gave me.0 p (history x)) one.1 ∙ ap (λ i. gave me.0 i (history z)) (one_place p q one.0), refl)),
        )

  pub tells : (id : ℕ) (v : RowView E K) → v.held ≡ [] → Splits (G) id v (left_of v) (informed_row_view v)
  tells id v idle s r at =
      let each : (P : RowView E K → Type 0) → P (left_of v) → P (informed_row_view v) → ((i : ℕ) (u : RowView E K) → get_elem? s.views i ≡ some u → P u) → (i : ℕ) (u : RowView E K) → get_elem? (set s.views id (left_of v) ++ informed_row_view v ∷ []) i ≡ some u → P u =
      λ P mine new old i u e. ⊎_elim (λ f. each_set s.views id (left_of v) P mine (λ i u e. old i u e) i u f) (λ is. subst P is new) (at_snoc (set s.views id (left_of v)) (informed_row_view v) u i e) in
      record {
        latest = r.latest;
        sized = r.sized;
        counted = λ q. let a = held-snoc q (set s.views id (left_of v)) (informed_row_view v) in let b = held-set q s.views id v (left_of v) at in let c : seats_with_lock q s.views ≡ takers (get_or s.words (place q) 0) = r.counted q in omega arith;
        home = r.home;
        seen = λ q below z. seen_told s.views id v q (r.latest q) at (r.seen q below z);
        known = each (λ u. (m : Front E) → Contains u.fronts m → IsPrefix m.history (r.latest m.lock)) (r.known id v at) (r.known id v at) r.known;
        mine = each (λ u. (m : Front E) → Contains u.held m → m.history ≡ r.latest m.lock) (r.mine id v at) (λ m c. absurd (let z = c.1 in omega arith)) r.mine;
        dealt = (let a = parts-snoc (set s.views id (left_of v)) (informed_row_view v) in let b = parts-set s.views id v (left_of v) at in let c : parts s.views ≡ 16 = r.dealt in omega arith);
        holder = each (λ u. u.parts ≡ 0 → u.held ≡ []) (λ z. idle) (λ z. refl) r.holder;
        named = each (λ u. (k : K) → u.about ≡ Some k → k ≡ key) (r.named id v at) (r.named id v at) r.named;
      }

  pub unites : (id : ℕ) (v : RowView E K) (other : ℕ) (w : RowView E K) → Joins (G) id v other w (united_row_view v w) nobody
  unites id v other w s r at ne at' =
      let both : RowView E K = united_row_view v w in
      let there : get_elem? s.views other ≡ some w = sym (set_else s.views id other both ne) ∙ at' in
      let each : (P : RowView E K → Type 0) → P both → P nobody → ((i : ℕ) (u : RowView E K) → get_elem? s.views i ≡ some u → P u) → (i : ℕ) (u : RowView E K) → get_elem? (set (set s.views id both) other nobody) i ≡ some u → P u =
      λ P b no old. each_set (set s.views id both) other nobody P no (each_set s.views id both P b old) in
      record {
        latest = r.latest;
        sized = r.sized;
        counted = λ q. let a = held-set q s.views id v both at in let b = held-set q (set s.views id both) other w nobody at' in let e = count-append q v.held w.held in
            let c : seats_with_lock q s.views ≡ takers (get_or s.words (place q) 0) = r.counted q in omega arith;
        home = r.home;
        seen = λ q below z. seen_united s.views id other v w q (r.latest q) ne at at' (r.seen q below z);
        known = each (λ u. (m : Front E) → Contains u.fronts m → IsPrefix m.history (r.latest m.lock))
            (λ m c. ⊎_elim (λ l. r.known id v at m l) (λ rt. r.known other w there m rt) (Contains-append_cases v.fronts w.fronts m c)) (λ m c. absurd (let z = c.1 in omega arith)) r.known;
        mine = each (λ u. (m : Front E) → Contains u.held m → m.history ≡ r.latest m.lock)
            (λ m c. ⊎_elim (λ l. r.mine id v at m l) (λ rt. r.mine other w there m rt) (Contains-append_cases v.held w.held m c)) (λ m c. absurd (let z = c.1 in omega arith)) r.mine;
        dealt = (let a = parts-set s.views id v both at in let b = parts-set (set s.views id both) other w nobody at' in let c : parts s.views ≡ 16 = r.dealt in omega arith);
        holder = each (λ u. u.parts ≡ 0 → u.held ≡ []) (λ z. (let a : v.held ≡ [] = r.holder id v at (omega arith) in let b : w.held ≡ [] = r.holder other w there (omega arith) in ap (λ (l : List (Front E)). l ++ w.held) a ∙ b)) (λ z. refl) r.holder;
        named = each (λ u. (k : K) → u.about ≡ Some k → k ≡ key) (r.named id v at) (λ k e. cc) r.named;
      }

  start_of : Option (Option T) → List E
  start_of None = []
  start_of (Some None) = []
  start_of (Some (Some x)) = history x

  slice_some : (xs : List (Option T)) (k : ℕ) (y : Option T) → slice_get xs k ≡ Some y → get_elem? (map some xs) k ≡ some (some y)
  slice_some [] k y e = cc
  slice_some (x ∷ xs) zero y e = let f : x ≡ y = cc in ap (λ (z : Option T). some (some z)) f
  slice_some (x ∷ xs) (suc k) y e = slice_some xs k y e

  record FrontAt (p : ℕ) (xs : List (Option T)) (m : Front E) : Type 0 where
    index : ℕ
    value : T
    lock_is : m.lock ≡ p + index
    there : slice_get xs index ≡ Some (Some value)
    history_is : m.history ≡ history value

  next : (p : ℕ) (y : Option T) (xs : List (Option T)) (m : Front E) → FrontAt (suc p) xs m → FrontAt p (y ∷ xs) m
  next p y xs m f = record { index = suc f.index; value = f.value; lock_is = f.lock_is ∙ omega arith; there = f.there; history_is = f.history_is }

  -- what the first seat has seen is the history of a value
  front_at : (p : ℕ) (xs : List (Option T)) (m : Front E) → Contains (fronts_of history p xs) m → FrontAt p xs m
  front_at p [] m c = absurd (let z = c.1 in omega arith)
  front_at p (None ∷ xs) m c = next p None xs m (front_at (suc p) xs m c)
  front_at p (Some x ∷ xs) m c = ⊎_elim
      (λ here. record { index = 0; value = x; lock_is = ap (λ (f : Front E). f.lock) (sym here) ∙ omega arith; there = refl; history_is = ap (λ (f : Front E). f.history) (sym here) })
      (λ there. next p (Some x) xs m (front_at (suc p) xs m there))
      (in_cons (front p (history x)) m (fronts_of history (suc p) xs) c)

  starts : (words : List ℕ) (slots xs : List (Option T)) → length words ≡ place (length xs) → length slots ≡ length words → ((k : ℕ) → get_or words k 0 ≡ 0)
      → ((k : ℕ) → k < length xs → get_or slots (place k) None ≡ get_or xs k None) → ((k : ℕ) → k < length xs → (x : T) × (slice_get xs k ≡ Some (Some x)) × law key k x)
      → G (opening words slots (first_row_view history key xs))
  unfolding start_of
  starts words slots xs long same zeros lie all =
      let first : RowView E K = first_row_view history key xs in
      let only : (P : RowView E K → Type 0) → P first → (i : ℕ) (u : RowView E K) → get_elem? (first ∷ []) i ≡ some u → P u = λ P h i u e. subst P (only_one first u i e) h in
      record {
        latest = λ q. start_of (slice_get xs q);
        sized = length-map slots some ∙ same;
        counted = λ q. sym (ap takers (zeros (place q)));
        home = λ q below z. let within : q < length xs = omega arith in let a = all q within in (a.0, slice_some slots (place q) (Some a.0) (slice_get-get_or slots (place q) None (omega arith) ∙ ap Some (lie q within ∙ get_or_from_slice_get xs q (Some a.0) None a.1)), a.2, sym (ap start_of a.1));
        seen = λ q below z. let within : q < length xs = omega arith in let a = all q within in record {
          id = 0;
          view = first;
          there = refl;
          part = omega arith;
          sees = subst (λ h. Contains first.fronts (front q h)) (sym (ap start_of a.1)) (subst (λ n. Contains first.fronts (front n (history a.0))) (omega arith) (first_seen history 0 xs q a.0 a.1));
        };
        known = only (λ u. (m : Front E) → Contains u.fronts m → IsPrefix m.history (start_of (slice_get xs m.lock))) (λ m c. let f = front_at 0 xs m c in let at : m.lock ≡ f.index = f.lock_is ∙ omega arith in whole_prefix _ _ (f.history_is ∙ sym (ap start_of (ap (slice_get xs) at ∙ f.there))));
        mine = only (λ u. (m : Front E) → Contains u.held m → m.history ≡ start_of (slice_get xs m.lock)) (λ m c. absurd (let z = c.1 in omega arith));
        dealt = refl;
        holder = only (λ u. u.parts ≡ 0 → u.held ≡ []) (λ z. refl);
        named = only (λ u. (k : K) → u.about ≡ Some k → k ≡ key) (λ k e. cc);
      }

  pub starts_with : (words : List ℕ) (slots xs ys : List (Option T)) → ys ≡ xs → length words ≡ place (length xs) → length slots ≡ length words → ((k : ℕ) → get_or words k 0 ≡ 0)
      → ((k : ℕ) → k < length xs → get_or slots (place k) None ≡ get_or xs k None) → ((k : ℕ) → k < length xs → (x : T) × (slice_get xs k ≡ Some (Some x)) × law key k x)
      → G (opening words slots (first_row_view history key ys))
  starts_with words slots xs ys e long same zeros lie all = subst (λ (zs : List (Option T)). G (opening words slots (first_row_view history key zs))) (sym e) (starts words slots xs long same zeros lie all)

  -- who has all parts, and no lock, knows that each value is at home, with a history that it has seen
  pub all_home : (s : St) (r : G s) (id : ℕ) (v : RowView E K) → get_elem? s.views id ≡ some v → v.parts ≡ 16 → v.held ≡ []
      → (p : ℕ) → place p < length s.words → (x : T) × (get_elem? s.homes (place p) ≡ some (some (Some x))) × law key p x × ((h : List E) → Contains v.fronts (front p h) → IsPrefix h (history x)) × Contains v.fronts (front p (history x))
  all_home s r id v at all idle p below =
      let dealt : parts s.views ≡ 16 = r.dealt in
      let none : seats_with_lock p s.views ≡ 0 = none_held p s.views (λ i u e. dite (ℕ_discrete i id)
      (λ same. (let is : v ≡ u = some-injective v u (sym at ∙ (ap (get_elem? s.views) (sym same) ∙ e)) in subst (λ (z : RowView E K). z.held ≡ []) is idle))
      (λ other. r.holder i u e (let two = parts_two s.views id i v u at e other in omega arith))) in
      let free = is_free _ (sym (r.counted p) ∙ none) in
      let h = r.home p below free in
      let last : Contains v.fronts (front p (r.latest p)) = (let w = r.seen p below free in dite (ℕ_discrete w.id id)
      (λ same. (let is : v ≡ w.view = some-injective v w.view (sym at ∙ (ap (get_elem? s.views) (sym same) ∙ w.there)) in subst (λ (z : RowView E K). Contains z.fronts (front p (r.latest p))) (sym is) w.sees))
      (λ other. absurd (let two = parts_two s.views id w.id v w.view at w.there other in let some_part = w.part in omega arith))) in
      (h.0, h.1, h.2, (λ l c. subst (λ m. IsPrefix l m) (sym h.3) (r.known id v at (front p l) c)), subst (λ l. Contains v.fronts (front p l)) (sym h.3) last)

pub refront : {T : Type 0} (p : ℕ) (y : T) (cs ds : List (ℕ × T)) → ds ≡ (p, y) ∷ cs → ds ≡ (p, y) ∷ rest ds
refront {T} p y cs ds e = e ∙ ap (λ (l : List (ℕ × T)). (p, y) ∷ l) (sym (ap rest e))
