-- What any board promises is exact on a plain one.
use Rattle.std.proofs.Common.{◌≡◌, ◌≢◌, ℕ, Some, None, sym, refl, ap, ◌∙◌, subst, inl, inr}
use Rattle.std.specs.Prelude.{Option, ◌⊎◌}
use Rattle.inst_command.specs.declared.outcome.Outcome.{Outcome}
use Rattle.inst_terms.specs.declared.terms.Terms.{Terms}
use Rattle.inst_command.specs.declared.place.Place.{Place}
use Rattle.inst_board.specs.declared.wish.Wish.{Wish}
use Rattle.inst_board.specs.declared.wish.Wish.TheVariants.{Accept, Reject, Expire}
use Rattle.inst_board.specs.declared.look.Look.{Look}
use Rattle.inst_board.specs.declared.about.About.{About}
use Rattle.inst_board.specs.declared.about.About.TheVariants.{Opened, HasTerms, Due, Decided, DecidedAt}
use Rattle.inst_board.specs.Standing.{Standing, unused, pending, decided, Says, about, look_of}
use Rattle.inst_board.specs.Wish.{wanted}
use Rattle.inst_board.specs.Learning.{Learns, AnswersWish, Looks, Decides, MayDecide, IsParty, IsOfOpening}
use Rattle.inst_board.specs.Plain.{Contents, standing_at, plain_knows, plain_stood, standing_after, outcome_of_standing}
use Rattle.inst_board.specs.Laws.{SayTheSame, Stands}
use Rattle.inst_board.proofs.PlainSteps.{stays_true}

module _ (margin : ℕ) where
  module _ (b : Contents) (k : Place) (p : Standing) (c : Contents) (l : Learns margin plain_knows b k p c) where
    elsewhere_same : (j : Place) → j ≢ k → SayTheSame (standing_at c j) (standing_at b j)
    elsewhere_same j n a = (λ h. elim (l.only (about j a) h) [ inl was ↦ was | inr new ↦ absurd (n new.0) ], λ h. l.kept (about j a) h)

    -- what is said of the place afterwards: what was said of it, or what it was read as
    from_either : (a : About) → Says (standing_at c k) a → Says (standing_at b k) a ⊎ Says p a
    from_either a h = elim (l.only (about k a) h) [ inl was ↦ inl was | inr new ↦ inr new.1 ]

    -- a standing that is said by both, and of which all is said afterwards
    stands_as : (q : Standing) → ((a : About) → Says (standing_at b k) a → Says q a) → ((a : About) → Says p a → Says q a) → ((a : About) → Says q a → Says (standing_at c k) a) → Stands b k q c
    stands_as q was read all = record {
      here = λ a. (λ h. elim (from_either a h) [ inl w ↦ was a w | inr r ↦ read a r ], all a);
      elsewhere = elsewhere_same;
    }

    pub still : ((a : About) → Says p a → Says (standing_at b k) a) → Stands b k (standing_at b k) c
    still read = stands_as (standing_at b k) (λ a h. h) read (λ a h. l.kept (about k a) h)

  -- all that is true of the first is true of the second
  abbrev Follows : Standing → Standing → Type 0
  Follows p q = (a : About) → Says p a → Says q a

  same_pending : (t s : Terms) (d e : ℕ) → Follows (pending t d) (pending s e) → Follows (pending s e) (pending t d)
  same_pending t s d e h Opened x = tt
  same_pending t s d e h (HasTerms r) x = x ∙ sym (h (HasTerms t) refl)
  same_pending t s d e h (Due f) x = x ∙ sym (h (Due d) refl)
  same_pending t s d e h (Decided o) x = absurd x
  same_pending t s d e h (DecidedAt u) x = absurd x

  same_decided : (t s : Terms) (d e : ℕ) (o z : Outcome) (m n : ℕ) → Follows (decided t d o m) (decided s e z n) → Follows (decided s e z n) (decided t d o m)
  same_decided t s d e o z m n h Opened x = tt
  same_decided t s d e o z m n h (HasTerms r) x = x ∙ sym (h (HasTerms t) refl)
  same_decided t s d e o z m n h (Due f) x = x ∙ sym (h (Due d) refl)
  same_decided t s d e o z m n h (Decided y) x = x ∙ sym (h (Decided o) refl)
  same_decided t s d e o z m n h (DecidedAt u) x = x ∙ sym (h (DecidedAt m) refl)

  ended_same : (t s : Terms) (d e : ℕ) (o : Outcome) (m n : ℕ) → n ≡ m → Follows (pending t d) (decided s e o n) → Follows (decided s e o n) (decided t d o m)
  ended_same t s d e o m n now h Opened x = tt
  ended_same t s d e o m n now h (HasTerms r) x = x ∙ sym (h (HasTerms t) refl)
  ended_same t s d e o m n now h (Due f) x = x ∙ sym (h (Due d) refl)
  ended_same t s d e o m n now h (Decided y) x = x
  ended_same t s d e o m n now h (DecidedAt u) x = x ∙ now

  all_said : (b c : Contents) (k : Place) (t : Terms) (d : ℕ) (s : Terms) (e : ℕ) (o : Outcome) (m n : ℕ) → standing_at b k ≡ pending t d → Learns margin plain_knows b k (decided s e o n) c → plain_knows c (about k (DecidedAt m)) → Follows (decided t d o m) (standing_at c k)
  all_said b c k t d s e o m n is l told Opened x = l.shown Opened tt
  all_said b c k t d s e o m n is l told (HasTerms r) x = l.kept (about k (HasTerms r)) (subst (λ (q : Standing). Says q (HasTerms r)) (sym is) x)
  all_said b c k t d s e o m n is l told (Due f) x = l.kept (about k (Due f)) (subst (λ (q : Standing). Says q (Due f)) (sym is) x)
  all_said b c k t d s e o m n is l told (Decided y) x = l.shown (Decided y) x
  all_said b c k t d s e o m n is l told (DecidedAt u) x = subst (λ (y : ℕ). plain_knows c (about k (DecidedAt y))) (sym x) told

  after_is : (wish : Wish) (at : ℕ) (t : Terms) (d : ℕ) (w : Option Outcome) → wanted margin wish d at ≡ w → standing_after margin wish at (pending t d) ≡ elim w [ None ↦ pending t d | Some o ↦ decided t d o at ]
  after_is wish at t d w e = ap (λ (x : Option Outcome). elim x [ None ↦ pending t d | Some o ↦ decided t d o at ]) e

  module _ (b c : Contents) (k : Place) (wish : Wish) (at : ℕ) (found : Option Outcome) where
    abbrev Exact : Standing → Type 0
    Exact q = (found ≡ outcome_of_standing (standing_after margin wish at q)) × Stands b k (standing_after margin wish at q) c

    -- an outcome that didn't stand before was decided now
    abbrev IsDecided : Type 0
    IsDecided = (o : Outcome) → found ≡ Some o → plain_stood b k o ⊎ plain_knows c (about k (DecidedAt at))

    from_pending : IsDecided → (t : Terms) (d : ℕ) → standing_at b k ≡ pending t d → (p : Standing) → Learns margin plain_knows b k p c → AnswersWish margin (plain_stood b k) wish at p found → Exact (pending t d)
    from_pending told t d is unused l h = absurd h
    from_pending told t d is (pending s e) l h =
        let follows : Follows (pending t d) (pending s e) = subst (λ (q : Standing). Follows q (pending s e)) is l.agrees in
        let none : wanted margin wish d at ≡ None = ap (λ (x : ℕ). wanted margin wish x at) (follows (Due d) refl) ∙ h.1 in
        let stays = still b k (pending s e) c l (subst (λ (q : Standing). Follows (pending s e) q) (sym is) (same_pending t s d e follows)) in
        let unchanged = after_is wish at t d None none in
        (h.0 ∙ sym (ap outcome_of_standing unchanged), subst (λ (q : Standing). Stands b k q c) (is ∙ sym unchanged) stays)
    from_pending told t d is (decided s e o n) l h =
        let follows : Follows (pending t d) (decided s e o n) = subst (λ (q : Standing). Follows q (decided s e o n)) is l.agrees in
        let new_one : ¬ plain_stood b k o = λ was. subst (λ (q : Standing). Says q (Decided o)) is was in
        let wants : (wanted margin wish d at ≡ Some o) × (n ≡ at) = elim h.1 [ inl was ↦ absurd (new_one was) | inr new ↦ (ap (λ (x : ℕ). wanted margin wish x at) (follows (Due d) refl) ∙ new.0, new.1) ] in
        let known : plain_knows c (about k (DecidedAt at)) = elim (told o h.0) [ inl was ↦ absurd (new_one was) | inr new ↦ new ] in
        let changed = after_is wish at t d (Some o) wants.0 in
        let stands = stands_as b k (decided s e o n) c l (decided t d o at) (stays_true margin (standing_at b k) t d at o is) (ended_same t s d e o at n wants.1 follows) (all_said b c k t d s e o at n is l known) in
        (h.0 ∙ sym (ap outcome_of_standing changed), subst (λ (q : Standing). Stands b k q c) (sym changed) stands)

    from_decided : (t : Terms) (d : ℕ) (o : Outcome) (m : ℕ) → standing_at b k ≡ decided t d o m → (p : Standing) → Learns margin plain_knows b k p c → AnswersWish margin (plain_stood b k) wish at p found → Exact (decided t d o m)
    from_decided t d o m is unused l h = absurd h
    from_decided t d o m is (pending s e) l h = absurd (subst (λ (q : Standing). Follows q (pending s e)) is l.agrees (Decided o) refl)
    from_decided t d o m is (decided s e z n) l h =
        let follows : Follows (decided t d o m) (decided s e z n) = subst (λ (q : Standing). Follows q (decided s e z n)) is l.agrees in
        let stays = still b k (decided s e z n) c l (subst (λ (q : Standing). Follows (decided s e z n) q) (sym is) (same_decided t s d e o z m n follows)) in
        (h.0 ∙ ap Some (sym (follows (Decided o) refl)), subst (λ (q : Standing). Stands b k q c) is stays)

    exact_from : IsDecided → (q : Standing) → standing_at b k ≡ q → Says q Opened → (p : Standing) → Learns margin plain_knows b k p c → AnswersWish margin (plain_stood b k) wish at p found → Exact q
    exact_from told unused is opened p l h = absurd opened
    exact_from told (pending t d) is opened p l h = from_pending told t d is p l h
    exact_from told (decided t d o m) is opened p l h = from_decided t d o m is p l h

  pub decides_exactly : (b c : Contents) (k : Place) (wish : Wish) (at : ℕ) (found : Option Outcome) → plain_knows b (about k Opened) → Decides margin plain_knows plain_stood b k wish at found c →
      (found ≡ outcome_of_standing (standing_after margin wish at (standing_at b k))) × Stands b k (standing_after margin wish at (standing_at b k)) c
  decides_exactly b c k wish at found opened h = exact_from b c k wish at found h.decided (standing_at b k) refl opened h.standing h.learns h.answers

  looks_pending : (s t : Terms) (e d : ℕ) → s ≡ t → e ≡ d → look_of (pending s e) ≡ look_of (pending t d)
  looks_pending s t e d p q = cc

  looks_decided : (s t : Terms) (e d : ℕ) (z o : Outcome) (n m : ℕ) → s ≡ t → z ≡ o → look_of (decided s e z n) ≡ look_of (decided t d o m)
  looks_decided s t e d z o n m p q = cc

  -- a look at a place that stands as q and is read as p
  same_look : (b c : Contents) (k : Place) (q : Standing) → standing_at b k ≡ q → (p : Standing) → Learns margin plain_knows b k p c →
      ((a : About) → IsOfOpening a → Says p a → Says (standing_at b k) a) → ((o : Outcome) → Says p (Decided o) → Says (standing_at b k) (Decided o)) →
      (look_of p ≡ look_of q) × Follows p (standing_at b k)
  same_look b c k unused is unused l own before = (refl, λ a h. absurd h)
  same_look b c k unused is (pending s e) l own before = absurd (subst (λ (x : Standing). Says x Opened) is (own Opened tt tt))
  same_look b c k unused is (decided s e z n) l own before = absurd (subst (λ (x : Standing). Says x Opened) is (own Opened tt tt))
  same_look b c k (pending t d) is unused l own before = absurd (l.agrees Opened (subst (λ (x : Standing). Says x Opened) (sym is) tt))
  same_look b c k (pending t d) is (pending s e) l own before =
      let follows : Follows (pending t d) (pending s e) = subst (λ (x : Standing). Follows x (pending s e)) is l.agrees in
      (looks_pending s t e d (sym (follows (HasTerms t) refl)) (sym (follows (Due d) refl)), subst (λ (x : Standing). Follows (pending s e) x) (sym is) (same_pending t s d e follows))
  same_look b c k (pending t d) is (decided s e z n) l own before = absurd (subst (λ (x : Standing). Says x (Decided z)) is (before z refl))
  same_look b c k (decided t d o m) is unused l own before = absurd (l.agrees Opened (subst (λ (x : Standing). Says x Opened) (sym is) tt))
  same_look b c k (decided t d o m) is (pending s e) l own before = absurd (l.agrees (Decided o) (subst (λ (x : Standing). Says x (Decided o)) (sym is) refl))
  same_look b c k (decided t d o m) is (decided s e z n) l own before =
      let follows : Follows (decided t d o m) (decided s e z n) = subst (λ (x : Standing). Follows x (decided s e z n)) is l.agrees in
      (looks_decided s t e d z o n m (sym (follows (HasTerms t) refl)) (sym (follows (Decided o) refl)), subst (λ (x : Standing). Follows (decided s e z n) x) (sym is) (same_decided t s d e o z m n follows))

  pub looks_exactly : (b c : Contents) (k : Place) (look : Look) → Looks margin plain_knows (λ _ _. Unit {0}) plain_stood b k look c →
      (look ≡ look_of (standing_at b k)) × Stands b k (standing_at b k) c
  looks_exactly b c k look h =
      let same = same_look b c k (standing_at b k) refl h.standing h.learns (h.own tt) h.before in
      (h.look_is ∙ same.0, still b k h.standing c h.learns same.1)

  same_wanted : (wish : Wish) (at : ℕ) (t s : Terms) (d e : ℕ) (w : Option Outcome) → wanted margin wish d at ≡ w → d ≡ e → outcome_of_standing (standing_after margin wish at (pending t d)) ≡ outcome_of_standing (standing_after margin wish at (pending s e))
  same_wanted wish at t s d e None is same = ap outcome_of_standing (after_is wish at t d None is) ∙ sym (ap outcome_of_standing (after_is wish at s e None (ap (λ (x : ℕ). wanted margin wish x at) (sym same) ∙ is)))
  same_wanted wish at t s d e (Some o) is same = ap outcome_of_standing (after_is wish at t d (Some o) is) ∙ sym (ap outcome_of_standing (after_is wish at s e (Some o) (ap (λ (x : ℕ). wanted margin wish x at) (sym same) ∙ is)))

  any_party : (wish : Wish) (k : Place) (t : Terms) → IsParty (λ _. Unit {0}) wish k t
  any_party Accept k t = tt
  any_party (Reject r) k t = tt
  any_party Expire k t = inl tt

  -- standings that say the same are decided alike
  pub same_outcome : (wish : Wish) (at : ℕ) (p q : Standing) → SayTheSame p q → outcome_of_standing (standing_after margin wish at p) ≡ outcome_of_standing (standing_after margin wish at q)
  same_outcome wish at unused unused same = refl
  same_outcome wish at unused (pending s e) same = absurd ((same Opened).1 tt)
  same_outcome wish at unused (decided s e z n) same = absurd ((same Opened).1 tt)
  same_outcome wish at (pending t d) unused same = absurd ((same Opened).0 tt)
  same_outcome wish at (pending t d) (pending s e) same = same_wanted wish at t s d e (wanted margin wish d at) refl ((same (Due d)).0 refl)
  same_outcome wish at (pending t d) (decided s e z n) same = absurd ((same (Decided z)).1 refl)
  same_outcome wish at (decided t d o m) unused same = absurd ((same Opened).0 tt)
  same_outcome wish at (decided t d o m) (pending s e) same = absurd ((same (Decided o)).0 refl)
  same_outcome wish at (decided t d o m) (decided s e z n) same = ap Some ((same (Decided o)).0 refl)

  plain_may_at : (b : Contents) (k : Place) (wish : Wish) (q : Standing) → standing_at b k ≡ q → Says q Opened → MayDecide plain_knows (λ _ _. Unit {0}) b k wish
  plain_may_at b k wish unused is opened = absurd opened
  plain_may_at b k wish (pending t d) is opened = record {
    terms = t;
    deadline = d;
    opened = subst (λ (q : Standing). Says q Opened) (sym is) tt;
    has_terms = subst (λ (q : Standing). Says q (HasTerms t)) (sym is) refl;
    due = subst (λ (q : Standing). Says q (Due d)) (sym is) refl;
    party = any_party wish k t;
  }
  plain_may_at b k wish (decided t d o m) is opened = record {
    terms = t;
    deadline = d;
    opened = subst (λ (q : Standing). Says q Opened) (sym is) tt;
    has_terms = subst (λ (q : Standing). Says q (HasTerms t)) (sym is) refl;
    due = subst (λ (q : Standing). Says q (Due d)) (sym is) refl;
    party = any_party wish k t;
  }

  -- the holder of a plain board may decide each opened place
  pub plain_may : (b : Contents) (k : Place) (wish : Wish) → plain_knows b (about k Opened) → MayDecide plain_knows (λ _ _. Unit {0}) b k wish
  plain_may b k wish opened = plain_may_at b k wish (standing_at b k) refl opened

  pub opens_exactly : (b c : Contents) (k : Place) (t : Terms) (d : ℕ) → Learns margin plain_knows b k (pending t d) c → Stands b k (pending t d) c
  opens_exactly b c k t d l = stands_as b k (pending t d) c l (pending t d) l.agrees (λ a h. h) (λ a h. l.shown a h)
