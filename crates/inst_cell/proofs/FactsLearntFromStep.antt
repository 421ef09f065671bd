-- What a step tells, as a holder learns it.
use Rattle.std.proofs.Common.{◌≡◌, ◌≢◌, ℕ, eqb, [], ◌∷◌, get_or, inl, inr, ⊎_elim, sym, ap, ◌∙◌, eq-eqb, ne_eqb, Some, None}
use Rattle.std.specs.Prelude.{Option}
use prog.Atomic.{either}
use Rattle.inst_terms.specs.declared.terms.Terms.{Terms}
use Rattle.inst_terms.specs.Terms.{IsTerms, words_of}
use Rattle.inst_command.specs.declared.place.Place.{Place}
use Rattle.inst_board.specs.declared.about.About.TheVariants.{HasTerms}
use Rattle.inst_board.specs.declared.about.Fact.{Fact}
use Rattle.inst_board.specs.Standing.{about}
use Rattle.inst_cell.specs.declared.view.View.{View}
use Rattle.inst_cell.specs.declared.shared_board.SharedBoard.{SharedBoard}
use Rattle.inst_cell.specs.Steps.{ShowsWord}
use Rattle.inst_cell.specs.Held.{settings_of, view_of, knows}
use Rattle.inst_cell.proofs.KnowledgeAfterStep.{knows_as}

pub hit : (k : ℕ) (v w : View) (n old new m : ℕ) → n ≡ old → new ≡ m → ShowsWord (n ≡ old) k v (either (eqb n old) new n) w → ShowsWord (new ≡ m) k v new w
hit k v w n old new m e f s = record {
  standing = s.standing;
  is = sym (ap (λ b. either b new n) (eq-eqb n old e)) ∙ s.is;
  showable = s.showable;
  agrees = s.agrees;
  mine = s.mine;
  learns = s.learns;
  one = s.one;
  before = ⊎_elim (λ own. inl (f, own.1)) (λ b. inr b) s.before;
}

pub missed : (k : ℕ) (v w : View) (n old new m : ℕ) → n ≢ old → ShowsWord (n ≡ old) k v (either (eqb n old) new n) w → ShowsWord (n ≡ m) k v n w
missed k v w n old new m ne s = record {
  standing = s.standing;
  is = sym (ap (λ b. either b new n) (ne_eqb n old ne)) ∙ s.is;
  showable = s.showable;
  agrees = s.agrees;
  mine = s.mine;
  learns = s.learns;
  one = s.one;
  before = ⊎_elim (λ own. absurd (ne own.0)) (λ b. inr b) s.before;
}

-- the same settings and the same view know the same
pub knows_still : (b c : SharedBoard) (f : Fact) → settings_of c ≡ settings_of b → view_of c ≡ view_of b → knows b f → knows c f
knows_still b c f e q h = knows_as (settings_of b) (settings_of c) (view_of b) (view_of c) f e q h

-- five words that were read are those of the terms
pub words_are : (t : Terms) (a b c d e : ℕ) → a ≡ get_or (words_of t) 0 0 → b ≡ get_or (words_of t) 1 0 → c ≡ get_or (words_of t) 2 0 → d ≡ get_or (words_of t) 3 0 → e ≡ get_or (words_of t) 4 0 → words_of t ≡ a ∷ b ∷ c ∷ d ∷ e ∷ []
words_are t a b c d e p q r s u = λ j. sym p j ∷ sym q j ∷ sym r j ∷ sym s j ∷ sym u j ∷ []

abbrev pub Told : SharedBoard → Place → ℕ → ℕ → Type 0
Told b k i n = (t : Terms) → knows b (about k (HasTerms t)) → IsTerms t × (n ≡ get_or (words_of t) i 0)

-- five loads in a row
pub five_loads : (k : Place) (b0 b1 b2 b3 b4 : SharedBoard) (a b c d e : ℕ)
    → settings_of b1 ≡ settings_of b0 → settings_of b2 ≡ settings_of b1 → settings_of b3 ≡ settings_of b2 → settings_of b4 ≡ settings_of b3
    → view_of b1 ≡ view_of b0 → view_of b2 ≡ view_of b1 → view_of b3 ≡ view_of b2 → view_of b4 ≡ view_of b3
    → Told b0 k 0 a → Told b1 k 1 b → Told b2 k 2 c → Told b3 k 3 d → Told b4 k 4 e
    → (t : Terms) → knows b0 (about k (HasTerms t)) → IsTerms t × (words_of t ≡ a ∷ b ∷ c ∷ d ∷ e ∷ [])
five_loads k b0 b1 b2 b3 b4 a b c d e p1 p2 p3 p4 q1 q2 q3 q4 l0 l1 l2 l3 l4 t h0 =
    let f : Fact = about k (HasTerms t) in
    let h1 = knows_still b0 b1 f p1 q1 h0 in
    let h2 = knows_still b1 b2 f p2 q2 h1 in
    let h3 = knows_still b2 b3 f p3 q3 h2 in
    let h4 = knows_still b3 b4 f p4 q4 h3 in
    ((l0 t h0).0, words_are t a b c d e (l0 t h0).1 (l1 t h1).1 (l2 t h2).1 (l3 t h3).1 (l4 t h4).1)

pub same_some : {A : Type 0} (r : Option A) (x y : A) → r ≡ Some x → r ≡ Some y → x ≡ y
same_some r x y p q = cc

pub no_none : {A : Type 0} (r : Option A) (x : A) → r ≡ Some x → r ≡ None → ⊥
no_none r x p q = cc
