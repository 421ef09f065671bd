-- What a step does to the rule.
use Rattle.std.proofs.Common.{◌≡◌, ℕ, eqb, cond, zero, suc, ◌+◌, ◌*◌, ◌/◌, ◌<◌, ◌≢◌, ◌⊎◌, Bool, List, [], ◌∷◌, ◌++◌, length, get_or, set, inl, inr, ⊎_elim, sym, refl, ap, ◌∙◌, subst, arith, true, false, length-set, get_or-set_same, eq-eqb, ne_eqb, Some}
use Rattle.std.specs.Prelude.{Contains}
use Rattle.std.proofs.lemmas.List.Elements.{Contains-append_left, Contains-append_right, Contains-append_cases}
use mathlib.Core.Option.{some}
use mathlib.Core.Logic.{dite}
use native.Mathlib.Decide.{ℕ_discrete}
use lib.ListN.{get_elem?}
use Rattle.atomic_table.proofs.Lists.{at_set}
use Rattle.inst_command.specs.declared.outcome.Outcome.{Outcome}
use Rattle.inst_command.specs.declared.outcome.Outcome.TheVariants.{TimedOut}
use Rattle.inst_settings.specs.Settings.{HubSettings}
use Rattle.inst_terms.specs.declared.terms.Terms.{Terms}
use Rattle.inst_terms.specs.Terms.{words_of}
use Rattle.inst_board.specs.declared.about.About.{About}
use Rattle.inst_board.specs.declared.about.About.TheVariants.{Opened, HasTerms, Due, Decided, DecidedAt}
use Rattle.inst_board.specs.Standing.{Standing, unused, pending, decided, Says}
use Rattle.inst_board.specs.Learning.{IsOfOpening, IsAnswer}
use Rattle.inst_cell.specs.declared.view.Known.{Known}
use Rattle.inst_cell.specs.declared.view.View.{View}
use Rattle.inst_cell.specs.View.{known, facts_of, all_that_is_known, count, note, view_after_learning, with_note, united_view}
use Rattle.inst_cell.specs.Rule.{encode, IsShowable, count_of_places, AllLearnt, KeepsBoard}
use Rattle.inst_cell.proofs.Tally.{held-set, held_two, noted_then}

pub get_or-set_else : (l : List ℕ) (i j n : ℕ) → j ≢ i → get_or (set l i n) j 0 ≡ get_or l j 0
get_or-set_else [] i j n ne = refl
get_or-set_else (x ∷ xs) zero zero n ne = absurd (ne refl)
get_or-set_else (x ∷ xs) zero (suc j) n ne = refl
get_or-set_else (x ∷ xs) (suc i) zero n ne = refl
get_or-set_else (x ∷ xs) (suc i) (suc j) n ne = get_or-set_else xs i j n (λ e. ne (ap suc e))

apart : (j k : ℕ) → j ≢ k → j * 6 + 5 ≢ k * 6 + 5
apart j k ne e = ne (omega arith)

no_term : (j k i : ℕ) → i < 5 → j * 6 + i ≢ k * 6 + 5
no_term j k i h e = absurd (omega arith)

no_outcome : (j k i : ℕ) → i < 5 → j * 6 + 5 ≢ k * 6 + i
no_outcome j k i h e = absurd (omega arith)

pub one_place : (j k i h : ℕ) → i < 5 → h < 5 → j * 6 + h ≡ k * 6 + i → (j ≡ k) × (h ≡ i)
one_place j k i h a b e = (omega arith, omega arith)

module _ (world : ℕ → Standing) (k : ℕ) (q : Standing) where
  abbrev pub after : ℕ → Standing
  after j = cond (eqb j k) q (world j)

  pub after_by : (P : Standing → Type 0) (j : ℕ) → (j ≡ k → P q) → (j ≢ k → P (world j)) → P (after j)
  after_by P j here there = dite (ℕ_discrete j k)
      (λ e. subst (λ (b : Bool). P (cond b q (world j))) (sym (eq-eqb j k e)) (here e))
      (λ ne. subst (λ (b : Bool). P (cond b q (world j))) (sym (ne_eqb j k ne)) (there ne))

pub no_fact : (f : Known) → Contains [] f → ⊥
no_fact f c = let z = c.1 in omega arith

true_at : (k : ℕ) (q : Standing) (a : About) (f : Known) → Says q a → known k a ≡ f → (f.place ≡ k) × Says q f.about
true_at k q a f says is = (ap (λ (g : Known). g.place) (sym is), subst (λ (g : Known). Says q g.about) is says)

-- what is read is true of the place
pub read_true : (k : ℕ) (q : Standing) (mine : Bool) (f : Known) → Contains (facts_of k q mine) f → (f.place ≡ k) × Says q f.about
read_true k unused mine f h = absurd (no_fact f h)
read_true k (pending t d) mine f (zero, b, e) = true_at k (pending t d) Opened f tt e
read_true k (pending t d) mine f (suc zero, b, e) = true_at k (pending t d) (HasTerms t) f refl e
read_true k (pending t d) mine f (suc (suc zero), b, e) = true_at k (pending t d) (Due d) f refl e
read_true k (pending t d) mine f (suc (suc (suc i)), b, e) = absurd (omega arith)
read_true k (decided t d o m) mine f (zero, b, e) = true_at k (decided t d o m) Opened f tt e
read_true k (decided t d o m) mine f (suc zero, b, e) = true_at k (decided t d o m) (HasTerms t) f refl e
read_true k (decided t d o m) mine f (suc (suc zero), b, e) = true_at k (decided t d o m) (Due d) f refl e
read_true k (decided t d o m) mine f (suc (suc (suc zero)), b, e) = true_at k (decided t d o m) (Decided o) f refl e
read_true k (decided t d o m) true f (suc (suc (suc (suc zero))), b, e) = true_at k (decided t d o m) (DecidedAt m) f refl e
read_true k (decided t d o m) true f (suc (suc (suc (suc (suc i)))), b, e) = absurd (omega arith)
read_true k (decided t d o m) false f (suc (suc (suc (suc i))), b, e) = absurd (omega arith)

-- what each step learns that sees it: all but at which reading a place was decided
abbrev pub IsSeen : About → Type 0
IsSeen Opened = Unit {0}
IsSeen (HasTerms t) = Unit {0}
IsSeen (Due d) = Unit {0}
IsSeen (Decided o) = Unit {0}
IsSeen (DecidedAt m) = ⊥

pub opening_seen : (a : About) → IsOfOpening a → IsSeen a
opening_seen Opened h = tt
opening_seen (HasTerms t) h = tt
opening_seen (Due d) h = tt
opening_seen (Decided o) h = absurd h
opening_seen (DecidedAt m) h = absurd h

-- what is true of the place and seen is read
pub read_all : (k : ℕ) (q : Standing) (mine : Bool) (a : About) → IsSeen a → Says q a → Contains (facts_of k q mine) (known k a)
read_all k unused mine a seen h = absurd h
read_all k (pending t d) mine Opened seen h = (0, omega arith, refl)
read_all k (pending t d) mine (HasTerms u) seen h = (1, omega arith, ap (λ (x : Terms). known k (HasTerms x)) (sym h))
read_all k (pending t d) mine (Due e) seen h = (2, omega arith, ap (λ (x : ℕ). known k (Due x)) (sym h))
read_all k (pending t d) mine (Decided o) seen h = absurd h
read_all k (pending t d) mine (DecidedAt n) seen h = absurd h
read_all k (decided t d p m) mine Opened seen h = (0, omega arith, refl)
read_all k (decided t d p m) mine (HasTerms u) seen h = (1, omega arith, ap (λ (x : Terms). known k (HasTerms x)) (sym h))
read_all k (decided t d p m) mine (Due e) seen h = (2, omega arith, ap (λ (x : ℕ). known k (Due x)) (sym h))
read_all k (decided t d p m) mine (Decided o) seen h = (3, omega arith, ap (λ (x : Outcome). known k (Decided x)) (sym h))
read_all k (decided t d p m) mine (DecidedAt n) seen h = absurd seen

-- who decided a place knows at which reading
pub read_moment : (k : ℕ) (q : Standing) (mine : Bool) (n : ℕ) → mine ≡ true → Says q (DecidedAt n) → Contains (facts_of k q mine) (known k (DecidedAt n))
read_moment k unused mine n own h = absurd h
read_moment k (pending t d) mine n own h = absurd h
read_moment k (decided t d o m) mine n own h =
    subst (λ (x : Bool). Contains (facts_of k (decided t d o m) x) (known k (DecidedAt n))) (sym own) (4, omega arith, ap (λ (x : ℕ). known k (DecidedAt x)) (sym h))

abbrev tells_moment : About → Bool
tells_moment Opened = false
tells_moment (HasTerms t) = false
tells_moment (Due d) = false
tells_moment (Decided o) = false
tells_moment (DecidedAt m) = true

another_fact : (j k n : ℕ) (a : About) → tells_moment a ≡ false → known k a ≡ known j (DecidedAt n) → ⊥
another_fact j k n a other e = let same : tells_moment a ≡ true = ap (λ (f : Known). tells_moment f.about) e in let never : ⊥ = cc in never

-- and nobody else
pub moment_unread : (k j : ℕ) (q : Standing) (n : ℕ) → Contains (facts_of k q false) (known j (DecidedAt n)) → ⊥
moment_unread k j unused n h = no_fact (known j (DecidedAt n)) h
moment_unread k j (pending t d) n (zero, b, e) = another_fact j k n Opened refl e
moment_unread k j (pending t d) n (suc zero, b, e) = another_fact j k n (HasTerms t) refl e
moment_unread k j (pending t d) n (suc (suc zero), b, e) = another_fact j k n (Due d) refl e
moment_unread k j (pending t d) n (suc (suc (suc i)), b, e) = absurd (omega arith)
moment_unread k j (decided t d o m) n (zero, b, e) = another_fact j k n Opened refl e
moment_unread k j (decided t d o m) n (suc zero, b, e) = another_fact j k n (HasTerms t) refl e
moment_unread k j (decided t d o m) n (suc (suc zero), b, e) = another_fact j k n (Due d) refl e
moment_unread k j (decided t d o m) n (suc (suc (suc zero)), b, e) = another_fact j k n (Decided o) refl e
moment_unread k j (decided t d o m) n (suc (suc (suc (suc i))), b, e) = absurd (omega arith)

pub all_left : (v : View) (k : ℕ) (q : Standing) (mine : Bool) (f : Known) → Contains (all_that_is_known v) f → Contains (all_that_is_known (view_after_learning v k q mine)) f
all_left v k q mine f c = ⊎_elim
    (λ l. Contains-append_left (v.facts ++ facts_of k q mine) v.heard f (Contains-append_left v.facts (facts_of k q mine) f l))
    (λ r. Contains-append_right (v.facts ++ facts_of k q mine) v.heard f r)
    (Contains-append_cases v.facts v.heard f c)

pub all_right : (v : View) (k : ℕ) (q : Standing) (mine : Bool) (f : Known) → Contains (facts_of k q mine) f → Contains (all_that_is_known (view_after_learning v k q mine)) f
all_right v k q mine f c = Contains-append_left (v.facts ++ facts_of k q mine) v.heard f (Contains-append_right v.facts (facts_of k q mine) f c)

pub all_cases : (v : View) (k : ℕ) (q : Standing) (mine : Bool) (f : Known) → Contains (all_that_is_known (view_after_learning v k q mine)) f → Contains (all_that_is_known v) f ⊎ Contains (facts_of k q mine) f
all_cases v k q mine f c = ⊎_elim
    (λ l. ⊎_elim (λ a. inl (Contains-append_left v.facts v.heard f a)) (λ b. inr b) (Contains-append_cases v.facts (facts_of k q mine) f l))
    (λ r. inl (Contains-append_right v.facts v.heard f r))
    (Contains-append_cases (v.facts ++ facts_of k q mine) v.heard f c)

-- all that both knew
pub united_cases : (v w : View) (f : Known) → Contains (all_that_is_known (united_view v w)) f → Contains (all_that_is_known v) f ⊎ Contains (all_that_is_known w) f
united_cases v w f c = ⊎_elim
    (λ l. ⊎_elim (λ x. inl (Contains-append_left v.facts v.heard f x)) (λ y. inr (Contains-append_left w.facts w.heard f y)) (Contains-append_cases v.facts w.facts f l))
    (λ r. ⊎_elim (λ x. inl (Contains-append_right v.facts v.heard f x)) (λ y. inr (Contains-append_right w.facts w.heard f y)) (Contains-append_cases v.heard w.heard f r))
    (Contains-append_cases (v.facts ++ w.facts) (v.heard ++ w.heard) f c)

pub united_all : (v w : View) (f : Known) → Contains (all_that_is_known v) f ⊎ Contains (all_that_is_known w) f → Contains (all_that_is_known (united_view v w)) f
united_all v w f c = ⊎_elim
    (λ l. ⊎_elim
    (λ x. Contains-append_left (v.facts ++ w.facts) (v.heard ++ w.heard) f (Contains-append_left v.facts w.facts f x))
    (λ y. Contains-append_right (v.facts ++ w.facts) (v.heard ++ w.heard) f (Contains-append_left v.heard w.heard f y))
    (Contains-append_cases v.facts v.heard f l))
    (λ r. ⊎_elim
    (λ x. Contains-append_left (v.facts ++ w.facts) (v.heard ++ w.heard) f (Contains-append_right v.facts w.facts f x))
    (λ y. Contains-append_right (v.facts ++ w.facts) (v.heard ++ w.heard) f (Contains-append_right v.heard w.heard f y))
    (Contains-append_cases w.facts w.heard f r))
    c

pub itself : (v : View) (f : Known) → Contains v.facts f → Contains (all_that_is_known v) f
itself v f c = Contains-append_left v.facts v.heard f c

each_set : (l : List View) (id : ℕ) (w : View) (P : View → Type 0) → P w → ((i : ℕ) (v : View) → get_elem? l i ≡ some v → i ≢ id → P v) → (i : ℕ) (v : View) → get_elem? (set l id w) i ≡ some v → P v
each_set l id w P here there i v e = ⊎_elim (λ t. subst P t.1 here) (λ t. there i v t.1 t.0) (at_set l id i w v e)

module _ (s : HubSettings) (words : List ℕ) (views : List View) (r : KeepsBoard s words views) (id : ℕ) (v : View) (at : get_elem? views id ≡ some v) where
  -- the seat that has the role of an unused place writes one of its terms words
  pub writes : (k i n : ℕ) → k < count_of_places s → i < 5 → 0 < count (k / s.places) v.roles → ¬ Says (r.world k) Opened
      → KeepsBoard s (set words (k * 6 + i) n) (set views id (with_note v (k * 6 + i) n))
  writes k i n within small role free =
      let x : ℕ = k * 6 + i in
      let w : View = with_note v x n in
      let sized = r.sized in
      let there : x < length words = omega arith in
      record {
        world = r.world;
        sized = length-set words x n ∙ r.sized;
        shown = λ j below. get_or-set_else words x (j * 6 + 5) n (no_outcome j k i small) ∙ r.shown j below;
        written = λ j h t below under says. dite (ℕ_discrete j k)
            (λ e. absurd (free (subst (λ y. Says (r.world y) Opened) e (opened_of (r.world j) (HasTerms t) says))))
            (λ ne. get_or-set_else words x (j * 6 + h) n (λ e. ne (one_place j k i h small under e).0) ∙ r.written j h t below under says);
        showable = r.showable;
        honest = each_set views id w (λ u. (f : Known) → Contains (all_that_is_known u) f → Says (r.world f.place) f.about) (r.honest id v at) (λ i u e ne. r.honest i u e);
        whole = each_set views id w (λ u. (j : ℕ) → 0 < count (j / s.places) u.roles → (a : About) → IsOfOpening a → Says (r.world j) a → Contains u.facts (known j a))
            (r.whole id v at) (λ i u e ne. r.whole i u e);
        answered = each_set views id w (λ u. (j : ℕ) (t : Terms) → Says (r.world j) (HasTerms t) → 0 < count t.to u.roles → (o : Outcome) → IsAnswer o → Says (r.world j) (Decided o) → Contains u.facts (known j (HasTerms t)) × Contains u.facts (known j (Decided o)))
            (r.answered id v at) (λ i u e ne. r.answered i u e);
        ended = λ j t has done. ⊎_elim
            (λ own. inl (each_set views id w (λ u. 0 < count (j / s.places) u.roles → Contains u.facts (known j (Decided TimedOut))) (own id v at) (λ i u e ne. own i u e)))
            (λ its. inr (each_set views id w (λ u. 0 < count t.to u.roles → Contains u.facts (known j (Decided TimedOut))) (its id v at) (λ i u e ne. its i u e)))
            (r.ended j t has done);
        decided = λ j t m has says. ⊎_elim
            (λ own. inl (each_set views id w (λ u. 0 < count (j / s.places) u.roles → Contains u.facts (known j (DecidedAt m))) (own id v at) (λ i u e ne. own i u e)))
            (λ its. inr (each_set views id w (λ u. 0 < count t.to u.roles → Contains u.facts (known j (DecidedAt m))) (its id v at) (λ i u e ne. its i u e)))
            (r.decided j t m has says);
        noted = each_set views id w (λ u. (j h m : ℕ) → j < count_of_places s → h < 5 → note u.notes (j * 6 + h) ≡ Some m → (0 < count (j / s.places) u.roles) × (¬ Says (r.world j) Opened → get_or (set words x n) (j * 6 + h) 0 ≡ m))
            (λ j h m below under nt. ⊎_elim
            (λ mine. (
              subst (λ y. 0 < count (y / s.places) v.roles) (sym (one_place j k i h small under mine.0).0) role,
              λ closed. ap (λ y. get_or (set words x n) y 0) mine.0 ∙ (get_or-set_same words x n 0 there ∙ mine.1),
            ))
            (λ old. let was = r.noted id v at j h m below under old.1 in (was.0, λ closed. get_or-set_else words x (j * 6 + h) n old.0 ∙ was.1 closed))
            (noted_then v.notes x n (j * 6 + h) m nt))
            (λ i' u e ne j h m below under nt. let was = r.noted i' u e j h m below under nt in (
              was.0,
              λ closed. dite (ℕ_discrete j k)
                  (λ same.
                  let two = held_two (k / s.places) views id i' v u at e ne in
                  let one = r.alone (k / s.places) in
                  let more : 0 < count (k / s.places) u.roles = subst (λ y. 0 < count (y / s.places) u.roles) same was.0 in absurd (omega arith))
                  (λ other. get_or-set_else words x (j * 6 + h) n (λ e. other (one_place j k i h small under e).0) ∙ was.1 closed),
            ));
        alone = λ q. let one = r.alone q in let same = held-set q views id v w at in omega arith;
      }
    where
      opened_of : (p : Standing) (a : About) → Says p a → Says p Opened
      opened_of unused a h = h
      opened_of (pending t d) a h = tt
      opened_of (decided t d o m) a h = tt

  -- the outcome word of the place k changes, or is read
  module _ (k : ℕ) (within : k < count_of_places s) (q : Standing) (mine : Bool) (showable : IsShowable s.margin q) (follows : (a : About) → Says (r.world k) a → Says q a)
      (terms : (i : ℕ) (t : Terms) → i < 5 → Says q (HasTerms t) → get_or words (k * 6 + i) 0 ≡ get_or (words_of t) i 0)
      (backed : ((a : About) → IsOfOpening a → Says q a → Says (r.world k) a) ⊎ (0 < count (k / s.places) v.roles))
      (replied : ((o : Outcome) → IsAnswer o → Says q (Decided o) → Says (r.world k) (Decided o) × ((t : Terms) → Says q (HasTerms t) → Says (r.world k) (HasTerms t)))
      ⊎ ((t : Terms) → Says q (HasTerms t) → 0 < count t.to v.roles))
      (ends : (Says q (Decided TimedOut) → Says (r.world k) (Decided TimedOut) × ((t : Terms) → Says q (HasTerms t) → Says (r.world k) (HasTerms t)))
      ⊎ ((t : Terms) → Says q (HasTerms t) → (0 < count (k / s.places) v.roles) ⊎ (0 < count t.to v.roles)))
      (dated : ((m : ℕ) → Says q (DecidedAt m) → Says (r.world k) (DecidedAt m) × ((t : Terms) → Says q (HasTerms t) → Says (r.world k) (HasTerms t)))
      ⊎ ((mine ≡ true) × ((t : Terms) → Says q (HasTerms t) → (0 < count (k / s.places) v.roles) ⊎ (0 < count t.to v.roles)))) where
    abbrev W : ℕ → Standing
    W = after r.world k q

    abbrev X : ℕ
    X = k * 6 + 5

    abbrev fs : List Known
    fs = facts_of k q mine

    lasts : (j : ℕ) (a : About) → Says (r.world j) a → Says (W j) a
    lasts j a h = after_by r.world k q (λ p. Says p a) j (λ e. follows a (subst (λ i. Says (r.world i) a) e h)) (λ ne. h)

    before : (P : Standing → Type 0) (j : ℕ) → P (W j) → ((j ≡ k) × P q) ⊎ ((j ≢ k) × P (r.world j))
    before P j h = dite (ℕ_discrete j k)
        (λ e. inl (e, subst (λ (b : Bool). P (cond b q (r.world j))) (eq-eqb j k e) h))
        (λ ne. inr (ne, subst (λ (b : Bool). P (cond b q (r.world j))) (ne_eqb j k ne) h))

    grown : (p : ℕ) (f : Known) → AllLearnt views p f → AllLearnt (set views id (view_after_learning v k q mine)) p f
    grown p f old = each_set views id (view_after_learning v k q mine) (λ u. 0 < count p u.roles → Contains u.facts f)
        (λ role. Contains-append_left v.facts fs f (old id v at role)) (λ i u e ne. old i u e)

    lone : (p : ℕ) (f : Known) → 0 < count p v.roles → Contains fs f → AllLearnt (set views id (view_after_learning v k q mine)) p f
    lone p f has new = each_set views id (view_after_learning v k q mine) (λ u. 0 < count p u.roles → Contains u.facts f)
        (λ role. Contains-append_right v.facts fs f new)
        (λ i u e ne role. let two = held_two p views id i v u at e ne in let one = r.alone p in absurd (omega arith))

    still : (j : ℕ) (t : Terms) (f : Known) → AllLearnt views (j / s.places) f ⊎ AllLearnt views t.to f
        → AllLearnt (set views id (view_after_learning v k q mine)) (j / s.places) f ⊎ AllLearnt (set views id (view_after_learning v k q mine)) t.to f
    still j t f was = ⊎_elim (λ own. inl (grown (j / s.places) f own)) (λ its. inr (grown t.to f its)) was

    pub moved : KeepsBoard s (set words X (encode q)) (set views id (view_after_learning v k q mine))
    moved = let w : View = view_after_learning v k q mine in let sized = r.sized in let there : X < length words = omega arith in record {
      world = W;
      sized = length-set words X (encode q) ∙ r.sized;
      shown = λ j below. after_by r.world k q (λ p. get_or (set words X (encode q)) (j * 6 + 5) 0 ≡ encode p) j
          (λ e. ap (λ y. get_or (set words X (encode q)) (y * 6 + 5) 0) e ∙ get_or-set_same words X (encode q) 0 there)
          (λ ne. get_or-set_else words X (j * 6 + 5) (encode q) (apart j k ne) ∙ r.shown j below);
      written = λ j h t below under says. get_or-set_else words X (j * 6 + h) (encode q) (no_term j k h under)
          ∙ after_by r.world k q (λ p. Says p (HasTerms t) → get_or words (j * 6 + h) 0 ≡ get_or (words_of t) h 0) j
          (λ e says. ap (λ y. get_or words (y * 6 + h) 0) e ∙ terms h t under says)
          (λ ne says. r.written j h t below under says)
          says;
      showable = λ j. after_by r.world k q (IsShowable s.margin) j (λ e. showable) (λ ne. r.showable j);
      honest = each_set views id w (λ u. (f : Known) → Contains (all_that_is_known u) f → Says (W f.place) f.about)
          (λ f c. ⊎_elim (λ old. lasts f.place f.about (r.honest id v at f old))
          (λ new. let t = read_true k q mine f new in after_by r.world k q (λ p. Says p f.about) f.place (λ e. t.1) (λ ne. absurd (ne t.0)))
          (all_cases v k q mine f c))
          (λ i u e ne f c. lasts f.place f.about (r.honest i u e f c));
      whole = each_set views id w (λ u. (j : ℕ) → 0 < count (j / s.places) u.roles → (a : About) → IsOfOpening a → Says (W j) a → Contains u.facts (known j a))
          (λ j role a ts says. ⊎_elim
          (λ here. Contains-append_right v.facts fs (known j a) (subst (λ i. Contains fs (known i a)) (sym here.0) (read_all k q mine a (opening_seen a ts) here.1)))
          (λ there. Contains-append_left v.facts fs (known j a) (r.whole id v at j role a ts there.1))
          (before (λ p. Says p a) j says))
          (λ i u e ne j role a ts says. ⊎_elim
          (λ here. ⊎_elim
          (λ back. r.whole i u e j role a ts (subst (λ i. Says (r.world i) a) (sym here.0) (back a ts here.1)))
          (λ mine. let two = held_two (k / s.places) views id i v u at e ne in let one = r.alone (k / s.places) in
          let role' : 0 < count (k / s.places) u.roles = subst (λ i. 0 < count (i / s.places) u.roles) here.0 role in absurd (omega arith))
          backed)
          (λ there. r.whole i u e j role a ts there.1)
          (before (λ p. Says p a) j says));
      answered = each_set views id w (λ u. (j : ℕ) (t : Terms) → Says (W j) (HasTerms t) → 0 < count t.to u.roles → (o : Outcome) → IsAnswer o → Says (W j) (Decided o) → Contains u.facts (known j (HasTerms t)) × Contains u.facts (known j (Decided o)))
          (λ j t has role o ans says. ⊎_elim
          (λ here. (
            Contains-append_right v.facts fs (known j (HasTerms t)) (subst (λ i. Contains fs (known i (HasTerms t))) (sym here.0) (read_all k q mine (HasTerms t) tt here.1.0)),
            Contains-append_right v.facts fs (known j (Decided o)) (subst (λ i. Contains fs (known i (Decided o))) (sym here.0) (read_all k q mine (Decided o) tt here.1.1)),
          ))
          (λ there. let was = r.answered id v at j t there.1.0 role o ans there.1.1 in (Contains-append_left v.facts fs (known j (HasTerms t)) was.0, Contains-append_left v.facts fs (known j (Decided o)) was.1))
          (before (λ p. Says p (HasTerms t) × Says p (Decided o)) j (has, says)))
          (λ i u e ne j t has role o ans says. ⊎_elim
          (λ here. ⊎_elim
          (λ back. let b = back o ans here.1.1 in
          r.answered i u e j t (subst (λ y. Says (r.world y) (HasTerms t)) (sym here.0) (b.1 t here.1.0)) role o ans (subst (λ y. Says (r.world y) (Decided o)) (sym here.0) b.0))
          (λ mine. let two = held_two t.to views id i v u at e ne in let one = r.alone t.to in let role' = mine t here.1.0 in absurd (omega arith))
          replied)
          (λ there. r.answered i u e j t there.1.0 role o ans there.1.1)
          (before (λ p. Says p (HasTerms t) × Says p (Decided o)) j (has, says)));
      ended = λ j t has done. ⊎_elim
          (λ here.
          let new : Contains fs (known j (Decided TimedOut)) = subst (λ i. Contains fs (known i (Decided TimedOut))) (sym here.0) (read_all k q mine (Decided TimedOut) tt here.1.1) in
          ⊎_elim
          (λ back. let b = back here.1.1 in
          still j t (known j (Decided TimedOut)) (r.ended j t (subst (λ y. Says (r.world y) (HasTerms t)) (sym here.0) (b.1 t here.1.0)) (subst (λ y. Says (r.world y) (Decided TimedOut)) (sym here.0) b.0)))
          (λ party. ⊎_elim
          (λ mine. inl (lone (j / s.places) (known j (Decided TimedOut)) (subst (λ i. 0 < count (i / s.places) v.roles) (sym here.0) mine) new))
          (λ its. inr (lone t.to (known j (Decided TimedOut)) its new))
          (party t here.1.0))
          ends)
          (λ there. still j t (known j (Decided TimedOut)) (r.ended j t there.1.0 there.1.1))
          (before (λ p. Says p (HasTerms t) × Says p (Decided TimedOut)) j (has, done));
      decided = λ j t m has says. ⊎_elim
          (λ here. ⊎_elim
          (λ back. let b = back m here.1.1 in
          still j t (known j (DecidedAt m)) (r.decided j t m (subst (λ y. Says (r.world y) (HasTerms t)) (sym here.0) (b.1 t here.1.0)) (subst (λ y. Says (r.world y) (DecidedAt m)) (sym here.0) b.0)))
          (λ party.
          let new : Contains fs (known j (DecidedAt m)) = subst (λ i. Contains fs (known i (DecidedAt m))) (sym here.0) (read_moment k q mine m party.0 here.1.1) in
          ⊎_elim
          (λ own. inl (lone (j / s.places) (known j (DecidedAt m)) (subst (λ i. 0 < count (i / s.places) v.roles) (sym here.0) own) new))
          (λ its. inr (lone t.to (known j (DecidedAt m)) its new))
          (party.1 t here.1.0))
          dated)
          (λ there. still j t (known j (DecidedAt m)) (r.decided j t m there.1.0 there.1.1))
          (before (λ p. Says p (HasTerms t) × Says p (DecidedAt m)) j (has, says));
      noted = each_set views id w (λ u. (j h m : ℕ) → j < count_of_places s → h < 5 → note u.notes (j * 6 + h) ≡ Some m → (0 < count (j / s.places) u.roles) × (¬ Says (W j) Opened → get_or (set words X (encode q)) (j * 6 + h) 0 ≡ m))
          (λ j h m below under nt. let was = r.noted id v at j h m below under nt in (was.0, λ closed. get_or-set_else words X (j * 6 + h) (encode q) (no_term j k h under) ∙ was.1 (λ old. closed (lasts j Opened old))))
          (λ i u e ne j h m below under nt. let was = r.noted i u e j h m below under nt in (was.0, λ closed. get_or-set_else words X (j * 6 + h) (encode q) (no_term j k h under) ∙ was.1 (λ old. closed (lasts j Opened old))));
      alone = λ p. let one = r.alone p in let same = held-set p views id v w at in omega arith;
    }
