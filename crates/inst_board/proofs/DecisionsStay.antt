-- What was decided stays so, over any board.
use Rattle.std.proofs.Common.{◌≡◌, ℕ, Some, None, IfSome, sym, refl, ap, ◌∙◌, subst, inl, inr}
use Rattle.std.specs.Prelude.{◌⊎◌, Option}
use Rattle.inst_command.specs.declared.outcome.Outcome.{Outcome}
use Rattle.inst_terms.specs.declared.terms.Terms.{Terms}
use Rattle.inst_command.specs.declared.place.Place.{Place}
use Rattle.inst_board.specs.declared.wish.Wish.{Wish}
use Rattle.inst_board.specs.declared.about.About.TheVariants.{Decided, DecidedAt}
use Rattle.inst_board.specs.declared.about.Fact.{Fact}
use Rattle.inst_board.specs.Standing.{Standing, unused, pending, decided, Says, about}
use Rattle.inst_board.specs.Learning.{Learns, AnswersWish}
use Rattle.inst_board.specs.Laws.{KnowsMore, DecidedOnce, EachDecisionIsOfItsReading, OnlyOwnReadingsAreLearnt}

module _ (margin : ℕ) where
  -- what is known as decided is answered
  pub answers_known : (stood : Outcome → Type 0) (wish : Wish) (t : ℕ) (p : Standing) (found : Option Outcome) (o : Outcome) → Says p (Decided o) → AnswersWish margin stood wish t p found → found ≡ Some o
  answers_known stood wish t unused found o says h = absurd says
  answers_known stood wish t (pending ts d) found o says h = absurd says
  answers_known stood wish t (decided ts d p at) found o says h = h.0 ∙ ap Some (sym says)

  module _ {B : Type 0} (knows : B → Fact → Type 0) where
    abbrev Known : B → Place → Option Outcome → Type 0
    Known c k found = IfSome found (λ o. knows c (about k (Decided o)))

    -- what was answered is known
    pub answered : (b c : B) (k : Place) (stood : Outcome → Type 0) (wish : Wish) (t : ℕ) (p : Standing) (found : Option Outcome) → Learns margin knows b k p c → AnswersWish margin stood wish t p found → Known c k found
    answered b c k stood wish t unused found l h = absurd h
    answered b c k stood wish t (pending ts d) found l h = subst (λ (f : Option Outcome). Known c k f) (sym h.0) tt
    answered b c k stood wish t (decided ts d o at) found l h = subst (λ (f : Option Outcome). Known c k f) (sym h.0) (l.shown (Decided o) refl)

    pub again : (c d : B) (k : Place) (stood : Outcome → Type 0) (wish : Wish) (t : ℕ) (q : Standing) (found found' : Option Outcome) → Learns margin knows c k q d → AnswersWish margin stood wish t q found'
        → Known c k found → IfSome found (λ o. found' ≡ Some o)
    again c d k stood wish t q None found' l h known = tt
    again c d k stood wish t q (Some o) found' l h known = answers_known stood wish t q found' o (l.agrees (Decided o) known) h

    known_more : (b c : B) (k : Place) (found : Option Outcome) → KnowsMore knows b c → Known b k found → Known c k found
    known_more b c k None more known = tt
    known_more b c k (Some o) more known = more (about k (Decided o)) known

    pub decided_once : (stood : B → Place → Outcome → Type 0) → DecidedOnce margin knows stood
    decided_once stood a b c d k first second at later found found' one more two =
        again c d k (stood c k) second later two.standing found found' two.learns two.answers
        (known_more b c k found more (answered a b k (stood a k) first at one.standing found one.learns one.answers))

    of_reading : (b c : B) (k : Place) (stood : Outcome → Type 0) (wish : Wish) (at : ℕ) (o : Outcome) (p : Standing)
        → Learns margin knows b k p c → AnswersWish margin stood wish at p (Some o) → stood o ⊎ knows c (about k (DecidedAt at))
        → stood o ⊎ (((t : Terms) × (d : ℕ) × Learns margin knows b k (decided t d o at) c) × knows c (about k (DecidedAt at)))
    of_reading b c k stood wish at o unused l h told = absurd h
    of_reading b c k stood wish at o (pending t d) l h told = let no : ⊥ = let e : Some o ≡ None = h.0 in cc in absurd no
    of_reading b c k stood wish at o (decided t d q m) l h told =
        let same : o ≡ q = let e : Some o ≡ Some q = h.0 in cc in
        elim h.1 [
          | inl was ↦ inl (subst stood (sym same) was)
          | inr new ↦
              let stands : decided t d q m ≡ decided t d o at = ap (λ (x : Outcome). decided t d x m) (sym same) ∙ ap (λ (n : ℕ). decided t d o n) new.1 in
              elim told [
                | inl was ↦ inl was
                | inr known ↦ inr ((t, d, subst (λ (x : Standing). Learns margin knows b k x c) stands l), known)
              ]
        ]

    -- an outcome that is new is of this reading
    pub decided_now : (stood : B → Place → Outcome → Type 0) → EachDecisionIsOfItsReading margin knows stood
    decided_now stood b c k wish at o h = of_reading b c k (stood b k) wish at o h.standing h.learns h.answers (h.decided o refl)

    -- a reading that is new to the holder is that of its own decision
    pub own_reading : (has_role : B → ℕ → Type 0) (stood : B → Place → Outcome → Type 0) → OnlyOwnReadingsAreLearnt margin knows has_role stood
    own_reading has_role stood b c k moment new known = (
      λ look h. new (h.reading moment known),
      λ wish at found h. elim (h.reading moment known) [ inl was ↦ absurd (new was) | inr own ↦ own ],
    )
