-- What holders of boards know, and who may decide.
use Rattle.std.proofs.Common.{◌≡◌, ℕ, ◌+◌, ◌<◌, ◌≤◌, ◌⊎◌, List, Some, None, inl, inr, sym, refl, ap, ◌∙◌, subst, arith}
use Rattle.std.specs.Prelude.{Option}
use Rattle.std.proofs.lemmas.Bool.Decides.{nat_tests}
use Rattle.inst_command.specs.declared.outcome.Outcome.{Outcome}
use Rattle.inst_command.specs.declared.outcome.Outcome.TheVariants.{Accepted, Rejected, TimedOut}
use Rattle.inst_terms.specs.declared.terms.Terms.{Terms}
use Rattle.inst_command.specs.declared.place.Place.{Place}
use Rattle.inst_board.specs.declared.wish.Wish.{Wish}
use Rattle.inst_board.specs.declared.wish.Wish.TheVariants.{Accept, Reject}
use Rattle.inst_board.specs.declared.look.Look.TheVariants.{Pending, Decided as DecidedLook}
use Rattle.inst_board.specs.declared.about.About.{About}
use Rattle.inst_board.specs.declared.about.About.TheVariants.{Opened, HasTerms, Due, Decided}
use Rattle.inst_board.specs.declared.about.Fact.{Fact}
use Rattle.inst_board.specs.declared.about.Fact.{Fact}
use Rattle.inst_board.specs.Standing.{Standing, unused, pending, decided, IsLawful, Says, look_of, about}
use Rattle.inst_board.specs.Learning.{Learns, KnowsTruly, AnswersWish}
use Rattle.inst_board.specs.Wish.{wanted}
use Rattle.inst_board.specs.Laws.{KnowsOpening, OnlyTheBeneficiaryAnswers, OwnOpeningsAreKnown, OwnAnswersAreKnown, OwnAnswersStand, WhatIsKnownStaysTrue}
use Rattle.inst_board.proofs.Places.{place_cases}

module _ (margin : ℕ) where
  -- a standing says one thing of each kind
  pub one_terms : (p : Standing) (t s : Terms) → Says p (HasTerms t) → Says p (HasTerms s) → t ≡ s
  one_terms unused t s h g = absurd h
  one_terms (pending u d) t s h g = h ∙ sym g
  one_terms (decided u d o at) t s h g = h ∙ sym g

  -- what a pending look says of a place
  pub pending_look : (p : Standing) (t : Terms) (d : ℕ) → Pending t d ≡ look_of p → p ≡ pending t d
  pending_look unused t d e = let no : ⊥ = cc in absurd no
  pending_look (pending s f) t d e = cc
  pending_look (decided s f o at) t d e = let no : ⊥ = cc in absurd no

  -- what the look of a decided place says of it
  pub record IsDecidedLook (p : Standing) (t : Terms) (o : Outcome) : Type 0 where
    pub opened : Says p Opened
    pub terms : Says p (HasTerms t)
    pub due : (d : ℕ) × Says p (Due d)
    pub decided : Says p (Decided o)

  pub decided_look : (p : Standing) (t : Terms) (o : Outcome) → DecidedLook t o ≡ look_of p → IsDecidedLook p t o
  decided_look unused t o e = let no : ⊥ = cc in absurd no
  decided_look (pending s d) t o e = let no : ⊥ = cc in absurd no
  decided_look (decided s d q at) t o e =
      let same_terms : t ≡ s = cc in let same_outcome : o ≡ q = cc in
      record { opened = tt; terms = same_terms; due = (d, refl); decided = same_outcome }

  module _ {B : Type 0} (knows : B → Fact → Type 0) (has_role : B → ℕ → Type 0) (one : (b : B) (k : Place) → (p : Standing) × ((a : About) → knows b (about k a) → Says p a)) where
    role_of : (b : B) (k : Place) (s t : Terms) → knows b (about k (HasTerms s)) → knows b (about k (HasTerms t)) → has_role b s.to → has_role b t.to
    role_of b k s t hs ht role =
        let p = one b k in
        subst (λ (u : Terms). has_role b u.to) (one_terms p.0 s t (p.1 (HasTerms s) hs) (p.1 (HasTerms t) ht)) role

    pub only_beneficiary : OnlyTheBeneficiaryAnswers knows has_role
    only_beneficiary b k t known = (
      λ may. role_of b k may.terms t may.has_terms known may.party,
      λ reason may. role_of b k may.terms t may.has_terms known may.party,
    )

  module _ {B : Type 0} (knows : B → Fact → Type 0) (has_role : B → ℕ → Type 0) (stood : B → Place → Outcome → Type 0) where
    pub own_openings : OwnOpeningsAreKnown margin knows has_role stood
    own_openings b c k t role = (
      λ deadline h.
          let is = pending_look h.standing t deadline h.look_is in
          let says : (a : About) → Says (pending t deadline) a → Says h.standing a = λ a x. subst (λ (p : Standing). Says p a) (sym is) x in
          record { opened = h.own role Opened tt (says Opened tt); terms = h.own role (HasTerms t) tt (says (HasTerms t) refl); due = h.own role (Due deadline) tt (says (Due deadline) refl) },
      λ o h.
          let is = decided_look h.standing t o h.look_is in
          (is.due.0, record { opened = h.own role Opened tt is.opened; terms = h.own role (HasTerms t) tt is.terms; due = h.own role (Due is.due.0) tt is.due.1 }),
    )

    pub own_answers : OwnAnswersAreKnown margin knows has_role stood
    own_answers b c k t role = (
      λ h. let is = decided_look h.standing t Accepted h.look_is in let knew = h.answered t is.terms role Accepted tt is.decided in record { terms = knew.0; decided = knew.1 },
      λ r h. let is = decided_look h.standing t (Rejected r) h.look_is in let knew = h.answered t is.terms role (Rejected r) tt is.decided in record { terms = knew.0; decided = knew.1 },
    )

  -- a deadline that a lawful standing says is at least 1
  lawful_due : (p : Standing) (d : ℕ) → IsLawful margin p → Says p (Due d) → 1 ≤ d
  lawful_due unused d h says = absurd says
  lawful_due (pending t e) d h says = subst (λ (x : ℕ). 1 ≤ x) (sym says) h
  lawful_due (decided t e o at) d h says = subst (λ (x : ℕ). 1 ≤ x) (sym says) h.0

  module _ {B : Type 0} (knows : B → Fact → Type 0) where
    pub learning_truly : (b c : B) (k : Place) (p : Standing) → Learns margin knows b k p c → ((j : Place) → KnowsTruly margin knows b j) → (j : Place) → KnowsTruly margin knows c j
    learning_truly b c k p l truly j = elim (place_cases j k) [
      | inl e ↦ subst (λ (i : Place). KnowsTruly margin knows c i) (sym e) (p, l.lawful, λ a h. elim (l.only (about k a) h) [ inl was ↦ l.agrees a was | inr new ↦ new.1 ])
      | inr n ↦ let q = truly j in (q.0, q.1, λ a h. elim (l.only (about j a) h) [ inl was ↦ q.2 a was | inr new ↦ absurd (n new.0) ])
    ]

    pub stays_true : WhatIsKnownStaysTrue margin knows
    stays_true b = record {
      first = λ none j. (unused, tt, λ a h. absurd (none (about j a) h));
      learning = λ c k p l truly j. learning_truly b c k p l truly j;
      writing = λ c same truly j. let q = truly j in (q.0, q.1, λ a h. q.2 a ((same (about j a)).0 h));
      due = λ k d truly known. lawful_due truly.0 d truly.1 (truly.2 (Due d) known);
    }

  module _ {B : Type 0} (knows : B → Fact → Type 0) (has_role : B → ℕ → Type 0) (stood : B → Place → Outcome → Type 0)
      (seldom : (b : B) (k : Place) (t : Terms) (o : Outcome) → knows b (about k (HasTerms t)) → has_role b t.to → stood b k o → knows b (about k (Decided o)) ⊎ (o ≡ TimedOut)) where
    stands : (b c : B) (k : Place) (t : Terms) (d at : ℕ) (found : Option Outcome) (wish : Wish) (want : Outcome) → wanted margin wish d at ≡ Some want →
        KnowsOpening knows b k t d → has_role b t.to → ((o : Outcome) → ¬ knows b (about k (Decided o))) →
        (p : Standing) → Learns margin knows b k p c → AnswersWish margin (stood b k) wish at p found → (found ≡ Some want) ⊎ (found ≡ Some TimedOut)
    stands b c k t d at found wish want wants opening role none unused l h = absurd h
    stands b c k t d at found wish want wants opening role none (pending s e) l h =
        let due : d ≡ e = l.agrees (Due d) opening.due in
        let no : None ≡ Some want = sym h.1 ∙ ap (λ (x : ℕ). wanted margin wish x at) (sym due) ∙ wants in
        let never : ⊥ = cc in absurd never
    stands b c k t d at found wish want wants opening role none (decided s e o m) l h =
        let due : d ≡ e = l.agrees (Due d) opening.due in
        elim h.1 [
          | inl was ↦ elim (seldom b k t o opening.terms role was) [
            | inl known ↦ absurd (none o known)
            | inr timed ↦ inr (h.0 ∙ ap Some timed)
          ]
          | inr new ↦ inl (h.0 ∙ sym new.0 ∙ ap (λ (x : ℕ). wanted margin wish x at) (sym due) ∙ wants)
        ]

    early_accept : (d at : ℕ) → at + margin < d → wanted margin Accept d at ≡ Some Accepted
    early_accept d at h = grind (arith, nat_tests)

    early_reject : (r : List ℕ) (d at : ℕ) → at < d → wanted margin (Reject r) d at ≡ Some (Rejected r)
    early_reject r d at h = grind (arith, nat_tests)

    pub answers_stand : OwnAnswersStand margin knows has_role stood
    answers_stand b c k t d at found opening role none = (
      λ early h. stands b c k t d at found Accept Accepted (early_accept d at early) opening role none h.standing h.learns h.answers,
      λ early r h. stands b c k t d at found (Reject r) (Rejected r) (early_reject r d at early) opening role none h.standing h.learns h.answers,
    )
