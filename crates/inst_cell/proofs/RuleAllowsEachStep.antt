-- The kinds of step.
use Rattle.std.proofs.Common.{◌≡◌, ℕ, eqb, zero, suc, ◌+◌, ◌*◌, ◌/◌, ◌^◌, ◌<◌, ◌⊎◌, List, [], ◌∷◌, ◌++◌, length, get_or, set, inl, inr, ⊎_elim, sym, refl, ap, ◌∙◌, subst, arith, true, false, eq-eqb, ne_eqb, Some}
use Rattle.std.specs.Prelude.{Contains}
use Rattle.std.proofs.lemmas.Grind.{same_number_lists}
use Rattle.std.proofs.lemmas.List.Elements.{Contains-append_left, Contains-append_right}
use mathlib.Core.Option.{none, some, some-injective, some-ne-none}
use mathlib.Core.Logic.{dite}
use native.Mathlib.Decide.{ℕ_discrete}
use lib.ListN.{get_elem?}
use prog.Atomic.{either}
use Rattle.atomic_table.specs.Table.{State, step, keeps, Allows, Splits, Joins, opening}
use Rattle.atomic_table.proofs.Lists.{at_set, at_snoc, set_again, set_else}
use Rattle.inst_command.specs.declared.outcome.Outcome.{Outcome}
use Rattle.inst_command.specs.declared.outcome.Outcome.TheVariants.{Accepted, Rejected, TimedOut}
use Rattle.inst_settings.specs.Settings.{HubSettings, participants}
use Rattle.inst_terms.specs.declared.terms.Terms.{Terms}
use Rattle.inst_terms.specs.declared.word.Word.TheVariants.{Pending, Decided as DecidedWord}
use Rattle.inst_terms.specs.Terms.{IsTerms, words_of}
use Rattle.inst_terms.specs.Word.{IsWord, number, outcome_number}
use Rattle.inst_terms.specs.WordLaw.{InTime}
use Rattle.inst_terms.specs.Reason.{reason_number}
use Rattle.inst_terms.proofs.WordsTellValuesApart.{terms_apart}
use Rattle.inst_board.specs.declared.about.About.{About}
use Rattle.inst_board.specs.declared.about.About.TheVariants.{Opened, HasTerms, Due, Decided, DecidedAt}
use Rattle.inst_board.specs.Standing.{Standing, unused, pending, decided, Says}
use Rattle.inst_board.specs.Learning.{IsOfOpening, IsAnswer}
use Rattle.inst_cell.specs.declared.view.Known.{Known}
use Rattle.inst_cell.specs.declared.view.View.{View}
use Rattle.inst_cell.specs.View.{known, all_that_is_known, count, note, first_view, view_after_learning, with_note, HasNoted, KnowsOne, without_role, with_role, informed_view, united_view, nobody}
use Rattle.inst_cell.specs.Rule.{encode, IsShowable, count_of_places, AllLearnt, KeepsBoard, IsKeptBoard}
use Rattle.inst_cell.specs.Steps.{SeatedView, Vouched, KnewOpening, KnewAnswer, KnewEnd, ShowsWord, vouches, loads, opens, decides_word, loads_term, notes_term}
use Rattle.inst_cell.proofs.Tally.{held-set, held-snoc, count-cut, count-from, count-append, note_cases, count_cases, count_left, count_right, set_here}
use Rattle.inst_cell.proofs.RuleAfterStep.{writes, moved, no_fact, one_place, itself, united_cases}
use Rattle.inst_cell.proofs.KnowledgeOfOneStanding.{one_from}

found_at : (l : List ℕ) (i : ℕ) → i < length l → get_elem? l i ≡ some (get_or l i 0)
found_at [] i h = absurd (omega arith)
found_at (x ∷ xs) zero h = refl
found_at (x ∷ xs) (suc i) h = found_at xs i (omega arith)

same_word : (l : List ℕ) (i : ℕ) → i < length l → set l i (get_or l i 0) ≡ l
same_word l i h = set_again l i (get_or l i 0) (found_at l i h)

not_opened : (p : Standing) → ¬ Says p Opened → (a : About) → Says p a → ⊥
not_opened unused not a h = h
not_opened (pending t d) not a h = not tt
not_opened (decided t d o m) not a h = not tt

no_rejected : (m r d : ℕ) → (m * 2 ^ 21 + r) * 4 + 2 ≡ (d * 2 ^ 21 + 0) * 4 + 0 → ⊥
no_rejected m r d e = omega arith

pub no_pending : (o : Outcome) (m d : ℕ) → outcome_number o m ≡ number d 0 0 → ⊥
no_pending Accepted m d e = omega arith
no_pending (Rejected r) m d e = no_rejected m (reason_number r) d e
no_pending TimedOut m d e = omega arith

same_pending : (t u : Terms) (d e : ℕ) → t ≡ u → d ≡ e → pending t d ≡ pending u e
same_pending t u d e a b = ap (λ (x : Terms). pending x d) a ∙ ap (λ (x : ℕ). pending u x) b

-- what has these terms and this deadline and shows the pending word is pending
pub still_pending : (p : Standing) (t : Terms) (d : ℕ) → Says p (HasTerms t) → Says p (Due d) → encode p ≡ number d 0 0 → p ≡ pending t d
still_pending unused t d has due e = absurd has
still_pending (pending u c) t d has due e = same_pending u t c d (sym has) (sym due)
still_pending (decided u c o m) t d has due e = absurd (no_pending o m d e)

stays_true : (t : Terms) (d m : ℕ) (o : Outcome) (a : About) → Says (pending t d) a → Says (decided t d o m) a
stays_true t d m o Opened h = tt
stays_true t d m o (HasTerms u) h = h
stays_true t d m o (Due e) h = h
stays_true t d m o (Decided p) h = absurd h
stays_true t d m o (DecidedAt n) h = absurd h

same_opening : (t : Terms) (d m : ℕ) (o : Outcome) (a : About) → IsOfOpening a → Says (decided t d o m) a → Says (pending t d) a
same_opening t d m o Opened of h = tt
same_opening t d m o (HasTerms u) of h = h
same_opening t d m o (Due e) of h = h
same_opening t d m o (Decided p) of h = absurd of
same_opening t d m o (DecidedAt n) of h = absurd of

has_terms : (margin : ℕ) (p : Standing) (t : Terms) → Says p (HasTerms t) → IsShowable margin p → IsTerms t
has_terms margin unused t says h = absurd says
has_terms margin (pending u d) t says h = subst IsTerms (sym says) h.0
has_terms margin (decided u d o m) t says h = subst IsTerms (sym says) h.0

-- accepted and rejected are the answers of who has the role; timed out is nobody's
replies : (t : Terms) (d : ℕ) (o : Outcome) (m : ℕ) (roles : List ℕ) (p : Standing) → p ≡ pending t d → (IsAnswer o → 0 < count t.to roles)
    → ((z : Outcome) → IsAnswer z → Says (decided t d o m) (Decided z) → Says p (Decided z) × ((u : Terms) → Says (decided t d o m) (HasTerms u) → Says p (HasTerms u)))
    ⊎ ((u : Terms) → Says (decided t d o m) (HasTerms u) → 0 < count u.to roles)
replies t d Accepted m roles p is role = inr (λ u has. subst (λ (x : Terms). 0 < count x.to roles) (sym has) (role tt))
replies t d (Rejected z) m roles p is role = inr (λ u has. subst (λ (x : Terms). 0 < count x.to roles) (sym has) (role tt))
replies t d TimedOut m roles p is role = inl (λ z ans says. absurd (subst IsAnswer says ans))

unwrap : (m n : ℕ) → Some m ≡ Some n → m ≡ n
unwrap m n e = cc

-- terms whose words were noted
pub same_noted : (v : View) (k : ℕ) (t u : Terms) → IsTerms t → IsTerms u → HasNoted v k t → HasNoted v k u → t ≡ u
same_noted v k t u ht hu nt nu =
    let at : (i : ℕ) → i < 5 → get_or (words_of t) i 0 ≡ get_or (words_of u) i 0 = λ i h. unwrap (get_or (words_of t) i 0) (get_or (words_of u) i 0) (sym (nt i h) ∙ nu i h) in
    terms_apart t u ht hu (five_same (words_of t) (words_of u) refl refl at)
  where
    five_same : (xs ys : List ℕ) → length xs ≡ 5 → length ys ≡ 5 → ((i : ℕ) → i < 5 → get_or xs i 0 ≡ get_or ys i 0) → xs ≡ ys
    five_same xs ys lx ly at = same_number_lists xs ys (lx ∙ sym ly) (λ i h. at i (omega arith))

abbrev pub St : Type 0
St = State (Unit {0}) View

module _ (s : HubSettings) where
  abbrev pub Rows : ℕ → View → St → ℕ → ℕ → Type 0
  Rows id w st x n = KeepsBoard s (set st.words x n) (set st.views id w)

  -- what the seat knows after a step agrees
  knows_one : (words : List ℕ) (views : List View) (id : ℕ) (v w : View) → get_elem? views id ≡ some v → KeepsBoard s words (set views id w) → KnowsOne w
  knows_one words views id v w at r = one_from r.world w (r.honest id w (set_here views id v w at))

  module _ (slots id : ℕ) (me : SeatedView) (k : ℕ) (within : k < count_of_places s) (places : me.0.places ≡ s.places) (margin : me.0.margin ≡ s.margin) where
    stays : (st : St) (r : IsKeptBoard s st) → get_elem? st.views id ≡ some me.0 → Rows id (view_after_learning me.0 k (r.world k) false) st (k * 6 + 5) (get_or st.words (k * 6 + 5) 0)
    stays st r at = subst (λ n. Rows id (view_after_learning me.0 k (r.world k) false) st (k * 6 + 5) n) (sym (r.shown k within))
        (moved s st.words st.views r id me.0 at k within (r.world k) false (r.showable k) (λ a h. h)
        (λ i t small has. r.written k i t within small has)
        (inl (λ a of h. h))
        (inl (λ o ans h. (h, λ t has. has)))
        (inl (λ h. (h, λ t has. has)))
        (inl (λ m h. (h, λ t has. has))))

    end_known : (st : St) (r : IsKeptBoard s st) → get_elem? st.views id ≡ some me.0 → 0 < count (k / me.0.places) me.0.roles → (t : Terms) → Says (r.world k) (HasTerms t) → 0 < count t.to me.0.roles
        → (o : Outcome) → Says (r.world k) (Decided o) → Contains me.0.facts (known k (Decided o))
    end_known st r at own t has its Accepted says = (r.answered id me.0 at k t has its Accepted tt says).1
    end_known st r at own t has its (Rejected z) says = (r.answered id me.0 at k t has its (Rejected z) tt says).1
    end_known st r at own t has its TimedOut says = ⊎_elim
        (λ a. a id me.0 at (subst (λ n. 0 < count (k / n) me.0.roles) places own))
        (λ b. b id me.0 at its)
        (r.ended k t has says)

    before : (st : St) (r : IsKeptBoard s st) → get_elem? st.views id ≡ some me.0 → (false ≡ false) × KnewOpening k me.0 (r.world k) × KnewAnswer k me.0 (r.world k) × KnewEnd k me.0 (r.world k)
    before st r at = (
      refl,
      λ role a of says. r.whole id me.0 at k (subst (λ n. 0 < count (k / n) me.0.roles) places role) a of says,
      λ t has role o ans says. r.answered id me.0 at k t has role o ans says,
      λ own t has its o says. end_known st r at own t has its o says,
    )

    shows : (own : Type 0) (st : St) (r : IsKeptBoard s st) → get_elem? st.views id ≡ some me.0 → ShowsWord own k me.0 (get_or st.words (k * 6 + 5) 0) (view_after_learning me.0 k (r.world k) false)
    shows own st r at = record {
      standing = r.world k;
      is = r.shown k within;
      showable = subst (λ m. IsShowable m (r.world k)) (sym margin) (r.showable k);
      agrees = λ a c. r.honest id me.0 at (known k a) c;
      mine = false;
      learns = refl;
      one = knows_one _ st.views id me.0 (view_after_learning me.0 k (r.world k) false) at (stays st r at);
      before = inr (before st r at);
    }

    same_place : (j : ℕ) → k * 6 + 5 ≡ j * 6 + 5 → k ≡ j
    same_place j e = omega arith

    pub allows_loads : Allows (IsKeptBoard s) slots id me (k * 6 + 5) (λ n. n) (loads (step slots (k * 6 + 5) 0 0 none) me)
    allows_loads st r _ at _ = (
      view_after_learning me.0 k (r.world k) false,
      keeps,
      tt,
      stays st r at,
      ((λ j e. subst (λ y. ShowsWord ⊥ y me.0 (get_or st.words (k * 6 + 5) 0) (view_after_learning me.0 k (r.world k) false)) (same_place j e) (shows ⊥ st r at)), refl),
    )

    pub allows_loads_term : (i : ℕ) → i < 5 → Allows (IsKeptBoard s) slots id me (k * 6 + i) (λ n. n) (loads_term (step slots (k * 6 + i) 0 0 none) me)
    allows_loads_term i small st r _ at _ =
        let n : ℕ = get_or st.words (k * 6 + i) 0 in
        let sized = r.sized in (
          me.0,
          keeps,
          tt,
          subst (λ ws. KeepsBoard s ws (set st.views id me.0)) (sym (same_word st.words (k * 6 + i) (omega arith)))
              (subst (λ vs. KeepsBoard s st.words vs) (sym (set_again st.views id me.0 at)) r),
          (
            (λ j h t e under c.
                let at' = one_place j k i h small under (sym e) in
                let has : Says (r.world k) (HasTerms t) = subst (λ y. Says (r.world y) (HasTerms t)) at'.0 (r.honest id me.0 at (known j (HasTerms t)) c) in
                (has_terms s.margin (r.world k) t has (r.showable k), r.written k i t within small has ∙ ap (λ y. get_or (words_of t) y 0) (sym at'.1))),
            refl,
          ),
        )

    vouched : (st : St) (r : IsKeptBoard s st) → get_elem? st.views id ≡ some me.0 → Vouched me.0
    vouched st r at = record {
      world = r.world;
      showable = λ j. subst (λ m. IsShowable m (r.world j)) (sym margin) (r.showable j);
      honest = r.honest id me.0 at;
      own = λ j role a of h. r.whole id me.0 at j (subst (λ n. 0 < count (j / n) me.0.roles) places role) a of (r.honest id me.0 at (known j a) h);
      answered = λ j t o role ans has h. r.answered id me.0 at j t (r.honest id me.0 at (known j (HasTerms t)) has) role o ans (r.honest id me.0 at (known j (Decided o)) h);
    }

    pub allows_vouches : Allows (IsKeptBoard s) slots id me (k * 6 + 5) (λ n. n) (vouches (step slots (k * 6 + 5) 0 0 none) me)
    allows_vouches st r _ at _ =
        let sized = r.sized in (
          me.0,
          keeps,
          tt,
          subst (λ ws. KeepsBoard s ws (set st.views id me.0)) (sym (same_word st.words (k * 6 + 5) (omega arith)))
              (subst (λ vs. KeepsBoard s st.words vs) (sym (set_again st.views id me.0 at)) r),
          (vouched st r at, refl),
        )

    pub allows_notes : (i n : ℕ) → i < 5 → 0 < count (k / s.places) me.0.roles → ¬ Contains (all_that_is_known me.0) (known k Opened)
        → Allows (IsKeptBoard s) slots id me (k * 6 + i) (λ _. n) (λ _. notes_term (step slots (k * 6 + i) n 0 none) me n)
    allows_notes i n small role new st r _ at _ = (
      with_note me.0 (k * 6 + i) n,
      keeps,
      tt,
      writes s st.words st.views r id me.0 at k i n within small role (λ h. new (itself me.0 (known k Opened) (r.whole id me.0 at k role Opened tt h))),
      (refl, refl),
    )

    -- the terms words that were noted are those of the opened place
    pub allows_opens : (t : Terms) (d word : ℕ) → word ≡ number d 0 0 → IsTerms t → IsWord (Pending d) → HasNoted me.0 k t → 0 < count (k / s.places) me.0.roles → ¬ Contains (all_that_is_known me.0) (known k Opened)
        → Allows (IsKeptBoard s) slots id me (k * 6 + 5) (λ _. word) (λ _. opens (step slots (k * 6 + 5) word 0 none) me word)
    allows_opens t d word is lawful moment noted role new st r _ at _ =
        let closed : ¬ Says (r.world k) Opened = λ h. new (itself me.0 (known k Opened) (r.whole id me.0 at k role Opened tt h)) in
        let free : (a : About) → Says (r.world k) a → ⊥ = not_opened (r.world k) closed in
        let w : View = view_after_learning me.0 k (pending t d) false in
        let row : Rows id w st (k * 6 + 5) word = subst (λ n. Rows id w st (k * 6 + 5) n) (sym is)
        (moved s st.words st.views r id me.0 at k within (pending t d) false (lawful, moment) (λ a h. absurd (free a h))
        (λ i u small has. (r.noted id me.0 at k i (get_or (words_of t) i 0) within small (noted i small)).1 closed ∙ ap (λ (x : Terms). get_or (words_of x) i 0) (sym has))
        (inr role)
        (inl (λ o ans says. absurd says))
        (inl (λ says. absurd says))
        (inl (λ m says. absurd says))) in (
          w,
          keeps,
          tt,
          row,
          (
            (λ j u c e hu nu n_is.
                let j_is : k ≡ j = omega arith in
                let nu' : HasNoted me.0 k u = subst (λ y. HasNoted me.0 y u) (sym j_is) nu in
                let t_is : t ≡ u = same_noted me.0 k t u lawful hu noted nu' in
                let d_is : d ≡ c = omega arith in (
                  subst (λ y. w ≡ view_after_learning me.0 y (pending u c) false) j_is (ap (λ (p : Standing). view_after_learning me.0 k p false) (same_pending t u d c t_is d_is)),
                  knows_one _ st.views id me.0 w at row,
                  λ a c'. free a (r.honest id me.0 at (known k a) (subst (λ y. Contains (all_that_is_known me.0) (known y a)) (sym j_is) c')),
                )),
            refl,
          ),
        )

    -- who answers has the role of the beneficiary; anyone may find a place timed out
    pub allows_decides : (t : Terms) (d old new : ℕ) (o : Outcome) (m : ℕ) → old ≡ number d 0 0 → new ≡ outcome_number o m → IsWord (DecidedWord o m) → InTime s.margin o d m
        → Contains (all_that_is_known me.0) (known k (Due d)) → Contains (all_that_is_known me.0) (known k (HasTerms t)) → (IsAnswer o → 0 < count t.to me.0.roles)
        → (0 < count (k / s.places) me.0.roles) ⊎ (0 < count t.to me.0.roles)
        → Allows (IsKeptBoard s) slots id me (k * 6 + 5) (λ n. either (eqb n old) new n) (decides_word (step slots (k * 6 + 5) old new none) me)
    allows_decides t d old new o m is will word in_time due has role party st r _ at _ = let x : ℕ = get_or st.words (k * 6 + 5) 0 in dite (ℕ_discrete x old)
        (λ hit.
        let due' : Says (r.world k) (Due d) = r.honest id me.0 at (known k (Due d)) due in
        let has' : Says (r.world k) (HasTerms t) = r.honest id me.0 at (known k (HasTerms t)) has in
        let here : r.world k ≡ pending t d = still_pending (r.world k) t d has' due' (sym (r.shown k within) ∙ (hit ∙ is)) in
        let could : IsShowable s.margin (pending t d) = subst (IsShowable s.margin) here (r.showable k) in
        let q : Standing = decided t d o m in
        let can : IsShowable s.margin q = (could.0, could.1.0, in_time, word) in
        let w : View = view_after_learning me.0 k q true in
        let e = eq-eqb x old hit in
        let a_party : (u : Terms) → Says q (HasTerms u) → (0 < count (k / s.places) me.0.roles) ⊎ (0 < count u.to me.0.roles) = λ u says. ⊎_elim (λ mine. inl mine) (λ its. inr (subst (λ (x : Terms). 0 < count x.to me.0.roles) (sym says) its)) party in
        let row : Rows id w st (k * 6 + 5) (outcome_number o m) =
        moved s st.words st.views r id me.0 at k within q true can
        (λ a h. stays_true t d m o a (subst (λ p. Says p a) here h))
        (λ i u small says. r.written k i u within small (subst (λ p. Says p (HasTerms u)) (sym here) says))
        (inl (λ a of h. subst (λ p. Says p a) (sym here) (same_opening t d m o a of h)))
        (replies t d o m me.0.roles (r.world k) here role)
        (inr a_party)
        (inr (refl, a_party)) in (
          w,
          keeps,
          tt,
          subst (λ b. Rows id w st (k * 6 + 5) (either b new x)) (sym e) (subst (λ n. Rows id w st (k * 6 + 5) n) (sym will) row),
          (
            (λ j f. subst (λ y. ShowsWord (x ≡ old) y me.0 (either (eqb x old) new x) w) (same_place j f)
                (subst (λ b. ShowsWord (x ≡ old) k me.0 (either b new x) w) (sym e) (record {
                  standing = q;
                  is = will;
                  showable = subst (λ n. IsShowable n q) (sym margin) can;
                  agrees = λ a c. stays_true t d m o a (subst (λ p. Says p a) here (r.honest id me.0 at (known k a) c));
                  mine = true;
                  learns = refl;
                  one = knows_one _ st.views id me.0 w at row;
                  before = inl (hit, refl);
                }))),
            refl,
          ),
        ))
        (λ miss. let w : View = view_after_learning me.0 k (r.world k) false in let e = ne_eqb x old miss in (
          w,
          keeps,
          tt,
          subst (λ b. Rows id w st (k * 6 + 5) (either b new x)) (sym e) (stays st r at),
          (
            (λ j f. subst (λ y. ShowsWord (x ≡ old) y me.0 (either (eqb x old) new x) w) (same_place j f)
                (subst (λ b. ShowsWord (x ≡ old) k me.0 (either b new x) w) (sym e) (shows (x ≡ old) st r at))),
            refl,
          ),
        ))

  pos_left : (m n x : ℕ) → m + n ≡ x → 0 < m → 0 < x
  pos_left m n x e h = omega arith

  pos_right : (m n x : ℕ) → m + n ≡ x → 0 < n → 0 < x
  pos_right m n x e h = omega arith

  nothing_noted : (x n : ℕ) → note [] x ≡ Some n → ⊥
  nothing_noted x n e = cc

  -- the first role goes to a new seat
  pub hands_over : (id : ℕ) (v : View) → Splits (IsKeptBoard s) id v (without_role v) (with_role v)
  hands_over id v st r at =
      let left : View = without_role v in
      let right : View = with_role v in
      let shared : (p : ℕ) → count p left.roles + count p right.roles ≡ count p v.roles = λ p. (let e = count-cut p v.roles in omega arith) in
      let role_left : (p : ℕ) → 0 < count p left.roles → 0 < count p v.roles = λ p h. pos_left (count p left.roles) (count p right.roles) (count p v.roles) (shared p) h in
      let role_right : (p : ℕ) → 0 < count p right.roles → 0 < count p v.roles = λ p h. pos_right (count p left.roles) (count p right.roles) (count p v.roles) (shared p) h in
      let each : (P : View → Type 0) → P left → P right → ((i : ℕ) (w : View) → get_elem? st.views i ≡ some w → P w) → (i : ℕ) (w : View) → get_elem? (set st.views id left ++ right ∷ []) i ≡ some w → P w =
      λ P l rt old i w e. ⊎_elim
      (λ f. ⊎_elim (λ t. subst P t.1 l) (λ t. old i w t.1) (at_set st.views id i left w f))
      (λ is. subst P is rt)
      (at_snoc (set st.views id left) right w i e) in
      record {
        world = r.world;
        sized = r.sized;
        shown = r.shown;
        written = r.written;
        showable = r.showable;
        honest = each (λ w. (f : Known) → Contains (all_that_is_known w) f → Says (r.world f.place) f.about) (r.honest id v at) (r.honest id v at) r.honest;
        whole = each (λ w. (k : ℕ) → 0 < count (k / s.places) w.roles → (a : About) → IsOfOpening a → Says (r.world k) a → Contains w.facts (known k a))
            (λ k role a of says. r.whole id v at k (role_left (k / s.places) role) a of says)
            (λ k role a of says. r.whole id v at k (role_right (k / s.places) role) a of says)
            r.whole;
        answered = each (λ w. (k : ℕ) (t : Terms) → Says (r.world k) (HasTerms t) → 0 < count t.to w.roles → (o : Outcome) → IsAnswer o → Says (r.world k) (Decided o) → Contains w.facts (known k (HasTerms t)) × Contains w.facts (known k (Decided o)))
            (λ k t has role o ans says. r.answered id v at k t has (role_left t.to role) o ans says)
            (λ k t has role o ans says. r.answered id v at k t has (role_right t.to role) o ans says)
            r.answered;
        ended = λ k t has done. ⊎_elim
            (λ own. inl (each (λ w. 0 < count (k / s.places) w.roles → Contains w.facts (known k (Decided TimedOut))) (λ role. own id v at (role_left (k / s.places) role)) (λ role. own id v at (role_right (k / s.places) role)) own))
            (λ its. inr (each (λ w. 0 < count t.to w.roles → Contains w.facts (known k (Decided TimedOut))) (λ role. its id v at (role_left t.to role)) (λ role. its id v at (role_right t.to role)) its))
            (r.ended k t has done);
        decided = λ k t m has says. ⊎_elim
            (λ own. inl (each (λ w. 0 < count (k / s.places) w.roles → Contains w.facts (known k (DecidedAt m))) (λ role. own id v at (role_left (k / s.places) role)) (λ role. own id v at (role_right (k / s.places) role)) own))
            (λ its. inr (each (λ w. 0 < count t.to w.roles → Contains w.facts (known k (DecidedAt m))) (λ role. its id v at (role_left t.to role)) (λ role. its id v at (role_right t.to role)) its))
            (r.decided k t m has says);
        noted = each (λ w. (k i n : ℕ) → k < count_of_places s → i < 5 → note w.notes (k * 6 + i) ≡ Some n → (0 < count (k / s.places) w.roles) × (¬ Says (r.world k) Opened → get_or st.words (k * 6 + i) 0 ≡ n))
            (λ k i n below under nt. absurd (nothing_noted (k * 6 + i) n nt))
            (λ k i n below under nt. absurd (nothing_noted (k * 6 + i) n nt))
            r.noted;
        alone = λ p. let one = r.alone p in let e = shared p in let x = held-set p st.views id v left at in let y = held-snoc p (set st.views id left) right in omega arith;
      }

  -- a new seat is told what one knows, and has no role
  pub tells : (id : ℕ) (v : View) → Splits (IsKeptBoard s) id v v (informed_view v)
  tells id v st r at =
      let right : View = informed_view v in
      let each : (P : View → Type 0) → P v → P right → ((i : ℕ) (w : View) → get_elem? st.views i ≡ some w → P w) → (i : ℕ) (w : View) → get_elem? (set st.views id v ++ right ∷ []) i ≡ some w → P w =
      λ P l rt old i w e. ⊎_elim
      (λ f. ⊎_elim (λ t. subst P t.1 l) (λ t. old i w t.1) (at_set st.views id i v w f))
      (λ is. subst P is rt)
      (at_snoc (set st.views id v) right w i e) in
      record {
        world = r.world;
        sized = r.sized;
        shown = r.shown;
        written = r.written;
        showable = r.showable;
        honest = each (λ w. (f : Known) → Contains (all_that_is_known w) f → Says (r.world f.place) f.about) (r.honest id v at) (r.honest id v at) r.honest;
        whole = each (λ w. (k : ℕ) → 0 < count (k / s.places) w.roles → (a : About) → IsOfOpening a → Says (r.world k) a → Contains w.facts (known k a)) (r.whole id v at) (λ k role a of says. absurd (omega arith)) r.whole;
        answered = each (λ w. (k : ℕ) (t : Terms) → Says (r.world k) (HasTerms t) → 0 < count t.to w.roles → (o : Outcome) → IsAnswer o → Says (r.world k) (Decided o) → Contains w.facts (known k (HasTerms t)) × Contains w.facts (known k (Decided o))) (r.answered id v at) (λ k t has role o ans says. absurd (omega arith)) r.answered;
        ended = λ k t has done. ⊎_elim
            (λ own. inl (each (λ w. 0 < count (k / s.places) w.roles → Contains w.facts (known k (Decided TimedOut))) (own id v at) (λ role. absurd (omega arith)) own))
            (λ its. inr (each (λ w. 0 < count t.to w.roles → Contains w.facts (known k (Decided TimedOut))) (its id v at) (λ role. absurd (omega arith)) its))
            (r.ended k t has done);
        decided = λ k t m has says. ⊎_elim
            (λ own. inl (each (λ w. 0 < count (k / s.places) w.roles → Contains w.facts (known k (DecidedAt m))) (own id v at) (λ role. absurd (omega arith)) own))
            (λ its. inr (each (λ w. 0 < count t.to w.roles → Contains w.facts (known k (DecidedAt m))) (its id v at) (λ role. absurd (omega arith)) its))
            (r.decided k t m has says);
        noted = each (λ w. (k i n : ℕ) → k < count_of_places s → i < 5 → note w.notes (k * 6 + i) ≡ Some n → (0 < count (k / s.places) w.roles) × (¬ Says (r.world k) Opened → get_or st.words (k * 6 + i) 0 ≡ n)) (r.noted id v at) (λ k i n below under nt. absurd (nothing_noted (k * 6 + i) n nt)) r.noted;
        alone = λ p. let one = r.alone p in let x = held-set p st.views id v v at in let y = held-snoc p (set st.views id v) right in omega arith;
      }

  -- one seat has what two had
  pub unites : (id : ℕ) (v : View) (other : ℕ) (w : View) → Joins (IsKeptBoard s) id v other w (united_view v w) nobody
  unites id v other w st r at ne at' =
      let both : View = united_view v w in
      let there : get_elem? st.views other ≡ some w = sym (set_else st.views id other both ne) ∙ at' in
      let each : (P : View → Type 0) → P both → P nobody → ((i : ℕ) (u : View) → get_elem? st.views i ≡ some u → P u) → (i : ℕ) (u : View) → get_elem? (set (set st.views id both) other nobody) i ≡ some u → P u =
      λ P b no old i u e. ⊎_elim
      (λ t. subst P t.1 no)
      (λ t. ⊎_elim (λ z. subst P z.1 b) (λ z. old i u z.1) (at_set st.views id i both u t.1))
      (at_set (set st.views id both) other i nobody u e) in
      let both_learnt : (p : ℕ) (f : Known) → AllLearnt st.views p f → AllLearnt (set (set st.views id both) other nobody) p f =
      λ p f old. each (λ u. 0 < count p u.roles → Contains u.facts f)
      (λ role. ⊎_elim
      (λ x. Contains-append_left v.facts w.facts f (old id v at x))
      (λ y. Contains-append_right v.facts w.facts f (old other w there y))
      (count_cases p v.roles w.roles role))
      (λ role. absurd (omega arith))
      old in
      let both_told : (k : ℕ) (t : Terms) (f : Known) → AllLearnt st.views (k / s.places) f ⊎ AllLearnt st.views t.to f
      → AllLearnt (set (set st.views id both) other nobody) (k / s.places) f ⊎ AllLearnt (set (set st.views id both) other nobody) t.to f =
      λ k t f was. ⊎_elim (λ own. inl (both_learnt (k / s.places) f own)) (λ its. inr (both_learnt t.to f its)) was in
      record {
        world = r.world;
        sized = r.sized;
        shown = r.shown;
        written = r.written;
        showable = r.showable;
        honest = each (λ u. (f : Known) → Contains (all_that_is_known u) f → Says (r.world f.place) f.about)
            (λ f c. ⊎_elim (λ x. r.honest id v at f x) (λ y. r.honest other w there f y) (united_cases v w f c))
            (λ f c. absurd (no_fact f c))
            r.honest;
        whole = each (λ u. (k : ℕ) → 0 < count (k / s.places) u.roles → (a : About) → IsOfOpening a → Says (r.world k) a → Contains u.facts (known k a))
            (λ k role a of says. ⊎_elim
            (λ x. Contains-append_left v.facts w.facts (known k a) (r.whole id v at k x a of says))
            (λ y. Contains-append_right v.facts w.facts (known k a) (r.whole other w there k y a of says))
            (count_cases (k / s.places) v.roles w.roles role))
            (λ k role a of says. absurd (omega arith))
            r.whole;
        answered = each (λ u. (k : ℕ) (t : Terms) → Says (r.world k) (HasTerms t) → 0 < count t.to u.roles → (o : Outcome) → IsAnswer o → Says (r.world k) (Decided o) → Contains u.facts (known k (HasTerms t)) × Contains u.facts (known k (Decided o)))
            (λ k t has role o ans says. ⊎_elim
            (λ x. let was = r.answered id v at k t has x o ans says in (Contains-append_left v.facts w.facts (known k (HasTerms t)) was.0, Contains-append_left v.facts w.facts (known k (Decided o)) was.1))
            (λ y. let was = r.answered other w there k t has y o ans says in (Contains-append_right v.facts w.facts (known k (HasTerms t)) was.0, Contains-append_right v.facts w.facts (known k (Decided o)) was.1))
            (count_cases t.to v.roles w.roles role))
            (λ k t has role o ans says. absurd (omega arith))
            r.answered;
        ended = λ k t has done. both_told k t (known k (Decided TimedOut)) (r.ended k t has done);
        decided = λ k t m has says. both_told k t (known k (DecidedAt m)) (r.decided k t m has says);
        noted = each (λ u. (k i n : ℕ) → k < count_of_places s → i < 5 → note u.notes (k * 6 + i) ≡ Some n → (0 < count (k / s.places) u.roles) × (¬ Says (r.world k) Opened → get_or st.words (k * 6 + i) 0 ≡ n))
            (λ k i n below under nt. ⊎_elim
            (λ x. let was = r.noted id v at k i n below under x in (count_left (k / s.places) v.roles w.roles was.0, was.1))
            (λ y. let was = r.noted other w there k i n below under y in (count_right (k / s.places) v.roles w.roles was.0, was.1))
            (note_cases v.notes w.notes (k * 6 + i) n nt))
            (λ k i n below under nt. absurd (nothing_noted (k * 6 + i) n nt))
            r.noted;
        alone = λ p. let one = r.alone p in let x = held-set p st.views id v both at in let y = held-set p (set st.views id both) other w nobody at' in let z = count-append p v.roles w.roles in omega arith;
      }

only_one : {A : Type 0} (x y : A) (i : ℕ) → get_elem? (x ∷ []) i ≡ some y → x ≡ y
only_one x y zero e = some-injective x y e
only_one x y (suc i) e = absurd (some-ne-none y (sym e))

none_noted : (x n : ℕ) → note [] x ≡ Some n → ⊥
none_noted x n e = cc

pub starts : (s : HubSettings) (words : List ℕ) → length words ≡ count_of_places s * 6 → ((x : ℕ) → get_or words x 0 ≡ 0) → IsKeptBoard s (opening words [] (first_view s))
starts s words sized zeros = record {
  world = λ k. unused;
  sized = sized;
  shown = λ k below. zeros (k * 6 + 5);
  written = λ k i t below small says. absurd says;
  showable = λ k. tt;
  honest = λ i v e f c. absurd (no_fact f (subst (λ (u : View). Contains (all_that_is_known u) f) (sym (only_one (first_view s) v i e)) c));
  whole = λ i v e k role a of says. absurd says;
  answered = λ i v e k t says role o ans done. absurd says;
  ended = λ k t says done. absurd says;
  decided = λ k t m says done. absurd says;
  noted = λ i v e k j n below small nt. absurd (none_noted (k * 6 + j) n (subst (λ (u : View). note u.notes (k * 6 + j) ≡ Some n) (sym (only_one (first_view s) v i e)) nt));
  alone = λ p. let up = (count-from p 0 (participants s)).0 in omega arith;
}
