-- Two boards that meet.
use Rattle.std.proofs.Common.{◌≡◌, ℕ, ◌/◌, ◌<◌, List, [], ◌∷◌, ◌++◌, length, arith, sym, refl, ap, ◌∙◌, subst, ⊎_elim, inl, inr, ◌⊎◌}
use Rattle.std.specs.Prelude.{Contains, ◌↔◌}
use Rattle.std.proofs.lemmas.List.{append-nil}
use Rattle.inst_settings.specs.Settings.{HubSettings}
use Rattle.inst_command.specs.declared.place.Place.{Place}
use Rattle.inst_board.specs.declared.about.About.{About}
use Rattle.inst_board.specs.declared.about.About.TheVariants.{HasTerms, Decided}
use Rattle.inst_board.specs.declared.about.Fact.{Fact}
use Rattle.inst_board.specs.Standing.{Standing, Says, about, IsLawful, IsPlace}
use Rattle.inst_board.specs.Plain.{place_number}
use Rattle.inst_cell.specs.declared.view.Known.{Known}
use Rattle.inst_cell.specs.declared.view.View.{View}
use Rattle.inst_cell.specs.declared.shared_board.SharedBoard.{SharedBoard}
use Rattle.inst_cell.specs.View.{known, all_that_is_known, count, informed_view, united_view, KnowsOne}
use Rattle.inst_cell.specs.Steps.{SeatedView, Vouched}
use Rattle.inst_cell.specs.Held.{settings_of, view_of, roles_of, knows_at, knows, has_role, AtOneTable, Stays}
use Rattle.inst_cell.specs.Meeting.{KnowsBoth, KnowsTruth, Vouches}
use Rattle.inst_cell.proofs.RuleAfterStep.{united_cases, united_all, itself}
use Rattle.inst_cell.proofs.KnowledgeAfterStep.{knows_as, lawful_of}
use Rattle.inst_cell.proofs.Numbers.{owner_is}
use Rattle.inst_cell.proofs.Tally.{count_cases, count_left, count_right}
use Rattle.inst_cell.proofs.KnowledgeOfOneStanding.{one_from}

-- what is known of the first two and by the view, where it has all that they have
pub both_of : (a b : SharedBoard) (s : HubSettings) (u : View) → AtOneTable a b → s ≡ settings_of b
    → ((f : Known) → Contains (all_that_is_known u) f ↔ (Contains (all_that_is_known (view_of a)) f ⊎ Contains (all_that_is_known (view_of b)) f)) → (f : Fact) → knows_at s u f ↔ (knows a f ⊎ knows b f)
both_of a b s u one same all f = (
  λ h. ⊎_elim
      (λ x. inl (knows_as s (settings_of a) (view_of a) (view_of a) f (sym (same ∙ one.1)) refl (h.0, x)))
      (λ y. inr (knows_as s (settings_of b) (view_of b) (view_of b) f (sym same) refl (h.0, y)))
      ((all (known (place_number s f.place) f.about)).0 h.1),
  λ h. ⊎_elim
      (λ x. let x' = knows_as (settings_of a) s (view_of a) (view_of a) f (same ∙ one.1) refl x in (x'.0, (all (known (place_number s f.place) f.about)).1 (inl x'.1)))
      (λ y. let y' = knows_as (settings_of b) s (view_of b) (view_of b) f same refl y in (y'.0, (all (known (place_number s f.place) f.about)).1 (inr y'.1)))
      h,
)

abbrev pub view_in : SeatedView → View
view_in m = m.0

-- one seat hears another
pub one_told : (v w : View) (copy c : SeatedView) → copy ≡ (informed_view v, []) → (rest : List (ℕ × Unit {0})) → c ≡ (united_view w copy.0, rest) → c.0 ≡ united_view w (informed_view v)
one_told v w copy c e rest f = ap view_in f ∙ ap (λ (m : SeatedView). united_view w m.0) e

-- what the words vouch for is true of one standing
pub vouched_one : (m n : SeatedView) → n ≡ m → Vouched m.0 → KnowsOne n.0
vouched_one m n e r = subst (λ (x : SeatedView). KnowsOne x.0) (sym e) (one_from r.world m.0 r.honest)

-- one is told what another knows
pub told_both : (v w u : View) → u ≡ united_view w (informed_view v) → (f : Known) → Contains (all_that_is_known u) f ↔ (Contains (all_that_is_known v) f ⊎ Contains (all_that_is_known w) f)
told_both v w u e f = (
  λ h. ⊎_elim (λ x. inr x) (λ y. inl y) (united_cases w (informed_view v) f (subst (λ (x : View). Contains (all_that_is_known x) f) e h)),
  λ h. subst (λ (x : View). Contains (all_that_is_known x) f) (sym e) (united_all w (informed_view v) f (⊎_elim (λ x. inr x) (λ y. inl y) h)),
)

module _ (v w u : View) (e : u ≡ united_view w (informed_view v)) where
  pub told_roles : u.roles ≡ w.roles
  told_roles = ap (λ (x : View). x.roles) e ∙ append-nil w.roles

  pub told_facts : u.facts ≡ w.facts
  told_facts = ap (λ (x : View). x.facts) e ∙ append-nil w.facts

  pub told_places : u.places ≡ w.places
  told_places = ap (λ (x : View). x.places) e

  pub told_margin : u.margin ≡ w.margin
  told_margin = ap (λ (x : View). x.margin) e

-- who has a role knew of its own what it was told
pub vouches_for : (a b : SharedBoard) (u : View) → AtOneTable a b → u ≡ united_view (view_of b) (informed_view (view_of a)) → Vouched u → Vouches b a
vouches_for a b u one e r = record {
  opening = λ k x role of h.
      let s = settings_of b in
      let n = place_number s k in
      let h' = knows_as (settings_of a) s (view_of a) (view_of a) (about k x) one.1 refl h in
      let owner : n / u.places ≡ k.owner = ap (λ (z : ℕ). n / z) (told_places (view_of a) (view_of b) u e ∙ b.based) ∙ owner_is s k h'.0 in
      let role' : 0 < count (n / u.places) u.roles = subst (λ (z : ℕ). 0 < count z u.roles) (sym owner) (subst (λ (l : List ℕ). 0 < count k.owner l) (sym (told_roles (view_of a) (view_of b) u e)) role) in
      let got = r.own n role' x of ((told_both (view_of a) (view_of b) u e (known n x)).1 (inl h'.1)) in
      (h'.0, itself (view_of b) (known n x) (subst (λ (l : List Known). Contains l (known n x)) (told_facts (view_of a) (view_of b) u e) got));
  answer = λ k t o role ans has h.
      let s = settings_of b in
      let n = place_number s k in
      let heard : (x : About) → knows b (about k x) ⊎ knows a (about k x) → IsPlace s k × Contains (all_that_is_known u) (known n x) = λ x.
      ⊎_elim
      (λ mine. (mine.0, (told_both (view_of a) (view_of b) u e (known n x)).1 (inr mine.1)))
      (λ theirs. let theirs' = knows_as (settings_of a) s (view_of a) (view_of a) (about k x) one.1 refl theirs in
      (theirs'.0, (told_both (view_of a) (view_of b) u e (known n x)).1 (inl theirs'.1))) in
      let has' = heard (HasTerms t) has in
      let h' = heard (Decided o) h in
      let role' : 0 < count t.to u.roles = subst (λ (l : List ℕ). 0 < count t.to l) (sym (told_roles (view_of a) (view_of b) u e)) role in
      let got = r.answered n t o role' ans has'.1 h'.1 in
      let back : (f : Known) → Contains u.facts f → Contains (all_that_is_known (view_of b)) f = λ f g. itself (view_of b) f (subst (λ (l : List Known). Contains l f) (told_facts (view_of a) (view_of b) u e) g) in
      ((has'.0, back (known n (HasTerms t)) got.0), (has'.0, back (known n (Decided o)) got.1));
}

-- what the words vouch for is true
pub truth_of : (s : HubSettings) (u w : View) → w ≡ u → w.margin ≡ s.margin → Vouched u → (k : Place) → (p : Standing) × IsLawful s.margin p × ((a : About) → knows_at s w (about k a) → Says p a)
truth_of s u w e bounded r k =
    let n = place_number s k in
    let m : u.margin ≡ s.margin = ap (λ (x : View). x.margin) (sym e) ∙ bounded in (
      r.world n,
      subst (λ (x : ℕ). IsLawful x (r.world n)) m (lawful_of u.margin (r.world n) (r.showable n)),
      λ a h. r.honest (known n a) (subst (λ (x : View). Contains (all_that_is_known x) (known n a)) e h.1),
    )

-- a board with the same knowledge
pub truth_still : (b c : SharedBoard) → settings_of c ≡ settings_of b → view_of c ≡ view_of b → KnowsTruth b → KnowsTruth c
truth_still b c e v truth = λ k.
    let t = truth k in (
      t.0,
      subst (λ (s : HubSettings). IsLawful s.margin t.0) (sym e) t.1,
      λ a h. t.2 a (knows_as (settings_of c) (settings_of b) (view_of c) (view_of b) (about k a) (sym e) (sym v) h),
    )

pub both_still : (a b c d : SharedBoard) → settings_of d ≡ settings_of c → view_of d ≡ view_of c → KnowsBoth a b c → KnowsBoth a b d
both_still a b c d e v both f = (
  λ h. (both f).0 (knows_as (settings_of d) (settings_of c) (view_of d) (view_of c) f (sym e) (sym v) h),
  λ h. knows_as (settings_of c) (settings_of d) (view_of c) (view_of d) f e v ((both f).1 h),
)

-- b hears of a, and then a' of b'
pub both_met : (a b a' b' c : SharedBoard) → settings_of a' ≡ settings_of a → view_of a' ≡ view_of a → KnowsBoth a b b' → KnowsBoth b' a' c → KnowsBoth a b c
both_met a b a' b' c e v one two f = (
  λ h. ⊎_elim (λ x. (one f).0 x) (λ y. inl (knows_as (settings_of a') (settings_of a) (view_of a') (view_of a) f (sym e) (sym v) y)) ((two f).0 h),
  λ h. (two f).1 (inl ((one f).1 h)),
)

-- what b' knew of a' vouches for a, where b' knew all of b
pub vouches_met : (a b a' b' : SharedBoard) → settings_of a' ≡ settings_of a → view_of a' ≡ view_of a → KnowsBoth a b b' → Vouches a' b' → Vouches a b
vouches_met a b a' b' e v one r = record {
  opening = λ k x role of h. back (about k x) (r.opening k x (role_too k.owner role) of ((one (about k x)).1 (inr h)));
  answer = λ k t o role ans has h. let got = r.answer k t o (role_too t.to role) ans (inr ((one (about k (HasTerms t))).1 has)) (inr ((one (about k (Decided o))).1 h)) in
      (back (about k (HasTerms t)) got.0, back (about k (Decided o)) got.1);
}
  where
    back : (f : Fact) → knows a' f → knows a f
    back f h = knows_as (settings_of a') (settings_of a) (view_of a') (view_of a) f (sym e) (sym v) h

    role_too : (p : ℕ) → has_role a p → has_role a' p
    role_too p h = subst (λ (x : View). 0 < count p x.roles) (sym v) h

-- two seats become one
pub united_both : (v w u : View) → u ≡ united_view v w → (f : Known) → Contains (all_that_is_known u) f ↔ (Contains (all_that_is_known v) f ⊎ Contains (all_that_is_known w) f)
united_both v w u e f = (
  λ h. united_cases v w f (subst (λ (x : View). Contains (all_that_is_known x) f) e h),
  λ h. subst (λ (x : View). Contains (all_that_is_known x) f) (sym e) (united_all v w f h),
)

module _ (a b a' b' : SharedBoard) (one : AtOneTable a b) (first : Stays a a') (second : Stays b b') (u : View) (e : u ≡ united_view (view_of a') (view_of b')) where
  abbrev same : settings_of a' ≡ settings_of b'
  same = first.settings ∙ (sym one.1 ∙ sym second.settings)

  pub joined_both : KnowsBoth a b a' → KnowsBoth a b b' → (f : Fact) → knows_at (settings_of a') u f ↔ (knows a f ⊎ knows b f)
  joined_both mine yours f =
      let table : AtOneTable a' b' = (second.table ∙ (one.0 ∙ sym first.table), sym same) in
      let all = both_of a' b' (settings_of a') u table same (united_both (view_of a') (view_of b') u e) f in (
        λ h. ⊎_elim (λ x. (mine f).0 x) (λ y. (yours f).0 y) (all.0 h),
        λ h. all.1 (inl ((mine f).1 h)),
      )

  pub joined_roles : u.roles ≡ roles_of a ++ roles_of b
  joined_roles = ap (λ (x : View). x.roles) e ∙ (ap (λ (l : List ℕ). l ++ roles_of b') first.roles ∙ ap (λ (l : List ℕ). roles_of a ++ l) second.roles)

  pub joined_role : (p : ℕ) → 0 < count p u.roles ↔ (has_role a p ⊎ has_role b p)
  joined_role p = (
    λ h. count_cases p (roles_of a) (roles_of b) (subst (λ (l : List ℕ). 0 < count p l) joined_roles h),
    λ h. subst (λ (l : List ℕ). 0 < count p l) (sym joined_roles) (⊎_elim (λ x. count_left p (roles_of a) (roles_of b) x) (λ y. count_right p (roles_of a) (roles_of b) y) h),
  )

pub none_held : {A : Type 0} (l : List A) → length l ≡ 0 → l ≡ []
none_held [] e = refl
none_held (x ∷ xs) e = absurd (omega arith)

-- a board without roles adds none
pub no_roles_more : (a b : List ℕ) → b ≡ [] → a ++ b ≡ a
no_roles_more a b e = ap (λ (l : List ℕ). a ++ l) e ∙ append-nil a
