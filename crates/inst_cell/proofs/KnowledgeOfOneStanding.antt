-- What is known of a place is true of one standing.
use Rattle.std.proofs.Common.{◌≡◌, ℕ, zero, suc, cond, Bool, List, [], ◌∷◌, ◌⊎◌, inl, inr, ⊎_elim, sym, refl, ap, subst, arith, Some, None, eq-eqb, ne_eqb, ◌∙◌}
use Rattle.std.specs.Prelude.{Contains, Option}
use Rattle.std.specs.Option.{option_or, unwrap_or}
use mathlib.Core.Logic.{dite}
use native.Mathlib.Decide.{ℕ_discrete}
use Rattle.inst_board.proofs.FactsOfOneStandingAgree.{same_terms, same_due, same_decided}
use Rattle.inst_command.specs.declared.outcome.Outcome.{Outcome}
use Rattle.inst_terms.specs.declared.terms.Terms.{Terms}
use Rattle.inst_board.specs.declared.about.About.{About}
use Rattle.inst_board.specs.declared.about.About.TheVariants.{Opened, HasTerms, Due, Decided, DecidedAt}
use Rattle.inst_board.specs.Standing.{Standing, unused, pending, decided, Says}
use Rattle.inst_cell.specs.declared.view.Known.{Known}
use Rattle.inst_cell.specs.declared.view.View.{View}
use Rattle.inst_cell.specs.View.{known, all_that_is_known, first_of, terms_in, due_in, outcome_about, moment_in, standing_with, known_standing, KnowsOne}

in_rest : {A : Type 0} (a b : A) (l : List A) → Contains (a ∷ l) b → (a ≡ b) ⊎ Contains l b
in_rest a b l (zero, below, is) = inl is
in_rest a b l (suc i, below, is) = inr (i, omega arith, is)

in_tail : {A : Type 0} (a b : A) (l : List A) → Contains l b → Contains (a ∷ l) b
in_tail a b l (i, below, is) = (suc i, omega arith, is)

in_head : {A : Type 0} (a : A) (l : List A) → Contains (a ∷ l) a
in_head a l = (0, omega arith, refl)

empty_has : {A : Type 0} (b : A) → Contains [] b → ⊥
empty_has b (i, below, is) = absurd (omega arith)

no_some : {X : Type 0} (x : X) → None ≡ Some x → ⊥
no_some x e = cc

-- the first thing of a kind that is known of a place
module _ {X : Type 0} (pick : About → Option X) (name : X → About) (picked : (x : X) → pick (name x) ≡ Some x) (named : (a : About) (x : X) → pick a ≡ Some x → a ≡ name x) where
  abbrev Found : ℕ → List Known → Type 0
  Found k fs = (y : X) × (first_of pick k fs ≡ Some y) × Contains fs (known k (name y))

  -- what is known of the kind is found as something that is known too
  found : (k : ℕ) (fs : List Known) (x : X) → Contains fs (known k (name x)) → Found k fs
  found k [] x h = absurd (empty_has (known k (name x)) h)
  found k (f ∷ fs) x h = dite (ℕ_discrete f.place k)
      (λ here. by_pick here (pick f.about) refl (λ g. found k fs x g))
      (λ ne.
      let rest : Contains fs (known k (name x)) = ⊎_elim (λ e. absurd (ne (ap (λ (g : Known). g.place) e))) (λ r. r) (in_rest f (known k (name x)) fs h) in
      let r = found k fs x rest in
      (r.0, subst (λ (c : Bool). cond c (option_or (pick f.about) (first_of pick k fs)) (first_of pick k fs) ≡ Some r.0) (sym (ne_eqb f.place k ne)) r.1, in_tail f (known k (name r.0)) fs r.2))
    where
      by_pick : f.place ≡ k → (o : Option X) → pick f.about ≡ o → (Contains fs (known k (name x)) → Found k fs) → Found k (f ∷ fs)
      by_pick here (Some z) e again =
          let is : f ≡ known k (name z) = ap (λ (n : ℕ). known n f.about) here ∙ ap (λ (a : About). known k a) (named f.about z e) in (
            z,
            ap (λ (c : Bool). cond c (option_or (pick f.about) (first_of pick k fs)) (first_of pick k fs)) (eq-eqb f.place k here) ∙ ap (λ (o : Option X). option_or o (first_of pick k fs)) e,
            subst (λ (g : Known). Contains (f ∷ fs) g) is (in_head f fs),
          )
      by_pick here None e again =
          let rest : Contains fs (known k (name x)) = ⊎_elim (λ same. absurd (no_some x (sym e ∙ (ap (λ (g : Known). pick g.about) same ∙ picked x)))) (λ r. r) (in_rest f (known k (name x)) fs h) in
          let r = again rest in (
            r.0,
            ap (λ (c : Bool). cond c (option_or (pick f.about) (first_of pick k fs)) (first_of pick k fs)) (eq-eqb f.place k here) ∙ (ap (λ (o : Option X). option_or o (first_of pick k fs)) e ∙ r.1),
            in_tail f (known k (name r.0)) fs r.2,
          )

terms_named : (a : About) (t : Terms) → terms_in a ≡ Some t → a ≡ HasTerms t
terms_named Opened t e = absurd (no_some t e)
terms_named (HasTerms u) t e = let is : u ≡ t = cc in ap HasTerms is
terms_named (Due d) t e = absurd (no_some t e)
terms_named (Decided o) t e = absurd (no_some t e)
terms_named (DecidedAt m) t e = absurd (no_some t e)

due_named : (a : About) (d : ℕ) → due_in a ≡ Some d → a ≡ Due d
due_named Opened d e = absurd (no_some d e)
due_named (HasTerms u) d e = absurd (no_some d e)
due_named (Due c) d e = let is : c ≡ d = cc in ap Due is
due_named (Decided o) d e = absurd (no_some d e)
due_named (DecidedAt m) d e = absurd (no_some d e)

outcome_named : (a : About) (o : Outcome) → outcome_about a ≡ Some o → a ≡ Decided o
outcome_named Opened o e = absurd (no_some o e)
outcome_named (HasTerms u) o e = absurd (no_some o e)
outcome_named (Due c) o e = absurd (no_some o e)
outcome_named (Decided z) o e = let is : z ≡ o = cc in ap Decided is
outcome_named (DecidedAt m) o e = absurd (no_some o e)

moment_named : (a : About) (m : ℕ) → moment_in a ≡ Some m → a ≡ DecidedAt m
moment_named Opened m e = absurd (no_some m e)
moment_named (HasTerms u) m e = absurd (no_some m e)
moment_named (Due c) m e = absurd (no_some m e)
moment_named (Decided o) m e = absurd (no_some m e)
moment_named (DecidedAt n) m e = let is : n ≡ m = cc in ap DecidedAt is

standing_opened : (t : Terms) (d : ℕ) (o : Option Outcome) (m : Option ℕ) → Says (standing_with t d o m) Opened
standing_opened t d None None = tt
standing_opened t d None (Some m) = tt
standing_opened t d (Some o) m = tt

standing_terms : (t : Terms) (d : ℕ) (o : Option Outcome) (m : Option ℕ) → Says (standing_with t d o m) (HasTerms t)
standing_terms t d None None = refl
standing_terms t d None (Some m) = refl
standing_terms t d (Some o) m = refl

standing_due : (t : Terms) (d : ℕ) (o : Option Outcome) (m : Option ℕ) → Says (standing_with t d o m) (Due d)
standing_due t d None None = refl
standing_due t d None (Some m) = refl
standing_due t d (Some o) m = refl

standing_outcome : (t : Terms) (d : ℕ) (o : Option Outcome) (m : Option ℕ) (z : Outcome) → o ≡ Some z → Says (standing_with t d o m) (Decided z)
standing_outcome t d None m z e = absurd (no_some z e)
standing_outcome t d (Some o) m z e = let is : z ≡ o = cc in is

standing_moment : (t : Terms) (d : ℕ) (o : Option Outcome) (m : Option ℕ) (n : ℕ) → m ≡ Some n → Says (standing_with t d o m) (DecidedAt n)
standing_moment t d o None n e = absurd (no_some n e)
standing_moment t d None (Some m) n e = let is : n ≡ m = cc in is
standing_moment t d (Some o) (Some m) n e = let is : n ≡ m = cc in is

pub same_moment : (p : Standing) (m n : ℕ) → Says p (DecidedAt m) → Says p (DecidedAt n) → m ≡ n
same_moment unused m n h g = absurd h
same_moment (pending t d) m n h g = absurd h
same_moment (decided t d o x) m n h g = h ∙ sym g

module _ (v : View) (k : ℕ) (p : Standing) (honest : (a : About) → Contains (all_that_is_known v) (known k a) → Says p a) where
  abbrev T : Terms
  T = unwrap_or (first_of terms_in k (all_that_is_known v)) (record { to = 0; cents = 0; id = [] })

  abbrev D : ℕ
  D = unwrap_or (first_of due_in k (all_that_is_known v)) 0

  abbrev O : Option Outcome
  O = first_of outcome_about k (all_that_is_known v)

  abbrev M : Option ℕ
  M = first_of moment_in k (all_that_is_known v)

  pub one_by : (a : About) → Contains (all_that_is_known v) (known k a) → Says (known_standing v k) a
  one_by Opened h = standing_opened T D O M
  one_by (HasTerms t) h =
      let f = found terms_in HasTerms (λ u. refl) terms_named k (all_that_is_known v) t h in
      let is : t ≡ T = same_terms p t f.0 (honest (HasTerms t) h) (honest (HasTerms f.0) f.2) ∙ sym (ap (λ (o : Option Terms). unwrap_or o (record { to = 0; cents = 0; id = [] })) f.1) in
      subst (λ (u : Terms). Says (known_standing v k) (HasTerms u)) (sym is) (standing_terms T D O M)
  one_by (Due d) h =
      let f = found due_in Due (λ u. refl) due_named k (all_that_is_known v) d h in
      let is : d ≡ D = same_due p d f.0 (honest (Due d) h) (honest (Due f.0) f.2) ∙ sym (ap (λ (o : Option ℕ). unwrap_or o 0) f.1) in
      subst (λ (u : ℕ). Says (known_standing v k) (Due u)) (sym is) (standing_due T D O M)
  one_by (Decided o) h =
      let f = found outcome_about Decided (λ u. refl) outcome_named k (all_that_is_known v) o h in
      standing_outcome T D O M o (f.1 ∙ ap Some (sym (same_decided p o f.0 (honest (Decided o) h) (honest (Decided f.0) f.2))))
  one_by (DecidedAt m) h =
      let f = found moment_in DecidedAt (λ u. refl) moment_named k (all_that_is_known v) m h in
      standing_moment T D O M m (f.1 ∙ ap Some (sym (same_moment p m f.0 (honest (DecidedAt m) h) (honest (DecidedAt f.0) f.2))))

-- what is true of a world is true of one standing a place
pub one_from : (world : ℕ → Standing) (v : View) → ((f : Known) → Contains (all_that_is_known v) f → Says (world f.place) f.about) → KnowsOne v
one_from world v honest = λ k a h. one_by v k (world k) (λ b g. honest (known k b) g) a h
