-- A history that a seat has seen stays seen by some seat.
use Rattle.std.proofs.Common.{◌≡◌, ℕ, zero, suc, ◌+◌, ◌<◌, ◌≢◌, List, [], ◌∷◌, ◌++◌, length, set, sym, ap, ◌∙◌, subst, arith, refl}
use Rattle.std.specs.Prelude.{Contains, Option, Some, None, slice_get}
use Rattle.std.proofs.lemmas.List.Elements.{Contains-append_left, Contains-append_right}
use mathlib.Core.Option.{some, some-injective, some-ne-none}
use mathlib.Core.Logic.{dite}
use native.Mathlib.Decide.{ℕ_discrete}
use lib.ListN.{get_elem?}
use Rattle.atomic_table.proofs.Lists.{at_longer, set_else}
use Rattle.inst_row.specs.declared.view.Front.{Front}
use Rattle.inst_row.specs.declared.view.RowView.{RowView}
use Rattle.inst_row.specs.View.{front, fronts_of, informed_row_view, left_of, united_row_view, nobody}
use Rattle.inst_row.specs.Rule.{IsSeen}

pub at_changed : {A : Type 0} (l : List A) (i : ℕ) (v w : A) → get_elem? l i ≡ some v → get_elem? (set l i w) i ≡ some w
at_changed [] i v w e = absurd (some-ne-none v (sym e))
at_changed (x ∷ xs) zero v w e = refl
at_changed (x ∷ xs) (suc i) v w e = at_changed xs i v w e

at_end : {A : Type 0} (l : List A) (v : A) → get_elem? (l ++ v ∷ []) (length l) ≡ some v
at_end [] v = refl
at_end (x ∷ xs) v = at_end xs v

next_in : {A : Type 0} (x y : A) (l : List A) → Contains l y → Contains (x ∷ l) y
next_in x y l c = Contains-append_right (x ∷ []) l y c

module _ {E K : Type 0} where
  same_view : (views : List (RowView E K)) (i j : ℕ) (v u : RowView E K) → i ≡ j → get_elem? views j ≡ some v → get_elem? views i ≡ some u → v ≡ u
  same_view views i j v u same at e = some-injective v u (sym at ∙ (ap (get_elem? views) (sym same) ∙ e))

  -- the seat's view changed, and it has seen no less
  pub seen_set : (views : List (RowView E K)) (id : ℕ) (v w : RowView E K) (p : ℕ) (h : List E) → get_elem? views id ≡ some v → (0 < v.parts → 0 < w.parts)
      → ((f : Front E) → Contains v.fronts f → Contains w.fronts f) → IsSeen views p h → IsSeen (set views id w) p h
  seen_set views id v w p h at part more s = dite (ℕ_discrete s.id id)
      (λ same.
      let is : v ≡ s.view = same_view views s.id id v s.view same at s.there in
      record {
        id = id;
        view = w;
        there = at_changed views id v w at;
        part = part (subst (λ (u : RowView E K). 0 < u.parts) (sym is) s.part);
        sees = more (front p h) (subst (λ (u : RowView E K). Contains u.fronts (front p h)) (sym is) s.sees);
      })
      (λ other. record { id = s.id; view = s.view; there = set_else views id s.id w other ∙ s.there; part = s.part; sees = s.sees })

  -- a part of the seat went to a new one
  pub seen_told : (views : List (RowView E K)) (id : ℕ) (v : RowView E K) (p : ℕ) (h : List E) → get_elem? views id ≡ some v → IsSeen views p h
      → IsSeen (set views id (left_of v) ++ informed_row_view v ∷ []) p h
  seen_told views id v p h at s = dite (ℕ_discrete s.id id)
      (λ same.
      let is : v ≡ s.view = same_view views s.id id v s.view same at s.there in
      let some_part : 0 < v.parts = subst (λ (u : RowView E K). 0 < u.parts) (sym is) s.part in
      record {
        id = length (set views id (left_of v));
        view = informed_row_view v;
        there = at_end (set views id (left_of v)) (informed_row_view v);
        part = omega arith;
        sees = subst (λ (u : RowView E K). Contains u.fronts (front p h)) (sym is) s.sees;
      })
      (λ other. record {
        id = s.id;
        view = s.view;
        there = at_longer (set views id (left_of v)) (informed_row_view v ∷ []) s.id s.view (set_else views id s.id (left_of v) other ∙ s.there);
        part = s.part;
        sees = s.sees;
      })

  -- the other seat was joined to this one
  pub seen_united : (views : List (RowView E K)) (id other : ℕ) (v w : RowView E K) (p : ℕ) (h : List E) → other ≢ id → get_elem? views id ≡ some v
      → get_elem? (set views id (united_row_view v w)) other ≡ some w → IsSeen views p h → IsSeen (set (set views id (united_row_view v w)) other nobody) p h
  seen_united views id other v w p h ne at at' before =
      let both : RowView E K = united_row_view v w in
      let s = seen_set views id v both p h at (λ part. omega arith) (λ f c. Contains-append_left v.fronts w.fronts f c) before in
      dite (ℕ_discrete s.id other)
      (λ same.
      let is : w ≡ s.view = same_view (set views id both) s.id other w s.view same at' s.there in
      let some_part : 0 < w.parts = subst (λ (u : RowView E K). 0 < u.parts) (sym is) s.part in
      record {
        id = id;
        view = both;
        there = set_else (set views id both) other id nobody (λ e. ne (sym e)) ∙ at_changed views id v both at;
        part = omega arith;
        sees = Contains-append_right v.fronts w.fronts (front p h) (subst (λ (u : RowView E K). Contains u.fronts (front p h)) (sym is) s.sees);
      })
      (λ apart. record { id = s.id; view = s.view; there = set_else (set views id both) other s.id nobody apart ∙ s.there; part = s.part; sees = s.sees })

  -- the seat left this history behind the lock
  pub seen_here : (views : List (RowView E K)) (id : ℕ) (v w : RowView E K) (p : ℕ) (h : List E) → get_elem? views id ≡ some v → 0 < w.parts
      → Contains w.fronts (front p h) → IsSeen (set views id w) p h
  seen_here views id v w p h at part c = record { id = id; view = w; there = at_changed views id v w at; part = part; sees = c }

module _ {T E : Type 0} (history : T → List E) where
  renumbered : (p k : ℕ) (x : T) (l : List (Front E)) → Contains l (front (suc p + k) (history x)) → Contains l (front (p + suc k) (history x))
  renumbered p k x l c = let same : suc p + k ≡ p + suc k = omega arith in subst (λ (n : ℕ). Contains l (front n (history x))) same c

  -- the first seat has seen the history of each value
  pub first_seen : (p : ℕ) (xs : List (Option T)) (k : ℕ) (x : T) → slice_get xs k ≡ Some (Some x) → Contains (fronts_of history p xs) (front (p + k) (history x))
  first_seen p [] k x e = absurd (let no : ⊥ = cc in no)
  first_seen p (None ∷ xs) zero x e = absurd (let no : ⊥ = cc in no)
  first_seen p (None ∷ xs) (suc k) x e = renumbered p k x (fronts_of history (suc p) xs) (first_seen (suc p) xs k x e)
  first_seen p (Some y ∷ xs) zero x e = let is : y ≡ x = cc in (0, omega arith, ap (λ (z : T). front p (history z)) is ∙ ap (λ (n : ℕ). front n (history x)) (omega arith))
  first_seen p (Some y ∷ xs) (suc k) x e =
      next_in (front p (history y)) (front (p + suc k) (history x)) (fronts_of history (suc p) xs) (renumbered p k x (fronts_of history (suc p) xs) (first_seen (suc p) xs k x e))
