-- The steps of a plain board, which knows all that is true.
use Rattle.std.proofs.Common.{◌≡◌, ◌≢◌, ◌≤◌, ℕ, ◌⊎◌, inl, inr, refl, sym, ap, ◌∙◌, subst, arith}
use Rattle.std.specs.Prelude.{Some}
use Rattle.std.proofs.lemmas.Bool.Decides.{nat_tests}
use Rattle.inst_command.specs.declared.outcome.Outcome.{Outcome}
use Rattle.inst_command.specs.declared.outcome.Outcome.TheVariants.{Accepted, Rejected, TimedOut}
use Rattle.inst_terms.specs.declared.terms.Terms.{Terms}
use Rattle.inst_terms.specs.WordLaw.{InTime}
use Rattle.inst_command.specs.declared.place.Place.{Place}
use Rattle.inst_board.specs.declared.wish.Wish.{Wish}
use Rattle.inst_board.specs.declared.wish.Wish.TheVariants.{Accept, Reject, Expire}
use Rattle.inst_board.specs.declared.about.About.{About}
use Rattle.inst_board.specs.declared.about.About.TheVariants.{Opened, HasTerms, Due, Decided, DecidedAt}
use Rattle.inst_board.specs.declared.plain.Kept.{Kept}
use Rattle.inst_board.specs.declared.plain.Kept.TheVariants.{Unused, Written, Pending, Decided as DecidedKept}
use Rattle.inst_board.specs.declared.look.Look.{Look}
use Rattle.inst_board.specs.declared.look.Look.TheVariants.{Pending as LookPending}
use Rattle.inst_board.specs.Standing.{Standing, unused, pending, decided, IsLawful, Says, Shows, look_of, about}
use Rattle.inst_board.specs.Laws.{ShowsItsWords}
use Rattle.inst_board.specs.Learning.{Learns, Decides}
use Rattle.inst_board.specs.Wish.{wanted}
use Rattle.inst_board.specs.Plain.{Contents, kept_at, kept_terms, standing_of, standing_at, plain_knows, plain_wrote, plain_stood, Becomes}
use Rattle.inst_board.proofs.Places.{place_cases}

module _ (margin : ℕ) where
  pub shows_says : (p : Standing) (a : About) → Shows p a → Says p a
  shows_says unused a h = h
  shows_says (pending t d) a h = h
  shows_says (decided t d o at) Opened h = h
  shows_says (decided t d o at) (HasTerms s) h = h
  shows_says (decided t d o at) (Due e) h = absurd h
  shows_says (decided t d o at) (Decided q) h = h
  shows_says (decided t d o at) (DecidedAt u) h = absurd h

  module _ (b : Contents) (k : Place) (w : Kept) (c : Contents) (becomes : Becomes b k w c) where
    says_at : (j : Place) (a : About) → (j ≡ k → Says (standing_of w) a) → (j ≢ k → Says (standing_at b j) a) → Says (standing_at c j) a
    says_at j a here there = elim (place_cases j k) [
      | inl e ↦ subst (λ (i : Place). Says (standing_at c i) a) (sym e) (subst (λ (x : Kept). Says (standing_of x) a) (sym becomes.here) (here e))
      | inr n ↦ subst (λ (x : Kept). Says (standing_of x) a) (sym (becomes.elsewhere j n)) (there n)
    ]

    says_from : (j : Place) (a : About) → Says (standing_at c j) a → Says (standing_at b j) a ⊎ ((j ≡ k) × Says (standing_of w) a)
    says_from j a h = elim (place_cases j k) [
      | inl e ↦ inr (e, subst (λ (x : Kept). Says (standing_of x) a) becomes.here (subst (λ (i : Place). Says (standing_at c i) a) e h))
      | inr n ↦ inl (subst (λ (x : Kept). Says (standing_of x) a) (becomes.elsewhere j n) h)
    ]

    -- a write after margin which all is true that was true before
    pub learns_written : IsLawful margin (standing_of w) → ((a : About) → Says (standing_at b k) a → Says (standing_of w) a) → Learns margin plain_knows b k (standing_of w) c
    learns_written lawful follows = record {
      lawful = lawful;
      agrees = follows;
      kept = λ f h. says_at f.place f.about (λ e. follows f.about (subst (λ (j : Place). Says (standing_at b j) f.about) e h)) (λ n. h);
      shown = λ a h. says_at k a (λ e. shows_says (standing_of w) a h) (λ n. absurd (n refl));
      only = λ f h. says_from f.place f.about h;
    }

  pub nothing_opened : (p : Standing) → ¬ Says p Opened → (a : About) (q : Standing) → Says p a → Says q a
  nothing_opened unused new a q h = absurd h
  nothing_opened (pending t d) new a q h = absurd (new tt)
  nothing_opened (decided t d o at) new a q h = absurd (new tt)

  -- a written place is opened
  pub opens_now : (b : Contents) (k : Place) (t : Terms) (d : ℕ) (c : Contents) → kept_terms (kept_at b k) ≡ Some t → ¬ plain_knows b (about k Opened) → 1 ≤ d
      → Becomes b k (Pending t d) c → (u : Terms) → plain_wrote b k u → Learns margin plain_knows b k (pending u d) c
  opens_now b k t d c kept new due becomes u wrote =
      let found : Some t ≡ Some u = sym kept ∙ ap kept_terms wrote in
      let same : t ≡ u = cc in
      learns_written b k (Pending u d) c (subst (λ x. Becomes b k (Pending x d) c) same becomes) due (λ a h. nothing_opened (standing_at b k) new a (pending u d) h)

  -- a decision keeps what is true of a pending place
  pub stays_true : (p : Standing) (t : Terms) (d at : ℕ) (o : Outcome) → p ≡ pending t d → (a : About) → Says p a → Says (decided t d o at) a
  stays_true p t d at o is Opened h = tt
  stays_true p t d at o is (HasTerms s) h = subst (λ (q : Standing). Says q (HasTerms s)) is h
  stays_true p t d at o is (Due e) h = subst (λ (q : Standing). Says q (Due e)) is h
  stays_true p t d at o is (Decided z) h = absurd (subst (λ (q : Standing). Says q (Decided z)) is h)
  stays_true p t d at o is (DecidedAt u) h = absurd (subst (λ (q : Standing). Says q (DecidedAt u)) is h)

  -- what a wish wants is in time
  pub wanted_in_time : (wish : Wish) (d t : ℕ) (o : Outcome) → wanted margin wish d t ≡ Some o → InTime margin o d t
  wanted_in_time Accept d t Accepted e = grind (arith, nat_tests)
  wanted_in_time Accept d t (Rejected r) e = grind (arith, nat_tests)
  wanted_in_time Accept d t TimedOut e = grind (arith, nat_tests)
  wanted_in_time (Reject s) d t Accepted e = grind (arith, nat_tests)
  wanted_in_time (Reject s) d t (Rejected r) e = grind (arith, nat_tests)
  wanted_in_time (Reject s) d t TimedOut e = grind (arith, nat_tests)
  wanted_in_time Expire d t Accepted e = grind (arith, nat_tests)
  wanted_in_time Expire d t (Rejected r) e = grind (arith, nat_tests)
  wanted_in_time Expire d t TimedOut e = grind (arith, nat_tests)

  -- what is kept of a place that looks pending
  pub kept_pending : (v : Kept) (look : Look) (t : Terms) (d : ℕ) → look ≡ look_of (standing_of v) → look ≡ LookPending t d → v ≡ Pending t d
  kept_pending Unused look t d shows is = let no : ⊥ = cc in absurd no
  kept_pending (Written u) look t d shows is = let no : ⊥ = cc in absurd no
  kept_pending (Pending u e) look t d shows is = cc
  kept_pending (DecidedKept u e o at) look t d shows is = let no : ⊥ = cc in absurd no

  -- what is kept of a place that is decided is lawful
  pub decided_lawful : (v w : Kept) (wish : Wish) (at : ℕ) (t : Terms) (d : ℕ) (o : Outcome) → IsLawful margin (standing_of v) → v ≡ Pending t d → w ≡ DecidedKept t d o at → wanted margin wish d at ≡ Some o →
      IsLawful margin (standing_of w)
  decided_lawful v w wish at t d o lawful is ended wants =
      let due : IsLawful margin (pending t d) = subst (λ (x : Kept). IsLawful margin (standing_of x)) is lawful in
      subst (λ (x : Kept). IsLawful margin (standing_of x)) (sym ended) (due, wanted_in_time wish d at o wants)

  -- a pending place is decided
  pub decides_now : (b : Contents) (k : Place) (wish : Wish) (at : ℕ) (t : Terms) (d : ℕ) (o : Outcome) (w : Kept) (c : Contents) →
      IsLawful margin (standing_at b k) → kept_at b k ≡ Pending t d → w ≡ DecidedKept t d o at → Becomes b k w c → wanted margin wish d at ≡ Some o →
      Decides margin plain_knows plain_stood b k wish at (Some o) c
  decides_now b k wish at t d o w c lawful is ended becomes wants =
      let becomes' = subst (λ (x : Kept). Becomes b k x c) ended becomes in
      let before : standing_at b k ≡ pending t d = ap standing_of is in
      record {
        standing = decided t d o at;
        learns = learns_written b k (DecidedKept t d o at) c becomes' (decided_lawful (kept_at b k) (DecidedKept t d o at) wish at t d o lawful is refl wants) (stays_true (standing_at b k) t d at o before);
        answers = (refl, inr (wants, refl));
        decided = λ q is. inr (says_at b k (DecidedKept t d o at) c becomes' k (DecidedAt at) (λ e. refl) (λ n. absurd (n refl)));
        reading = λ moment h. elim (says_from b k (DecidedKept t d o at) c becomes' k (DecidedAt moment) h) [ inl was ↦ inl was | inr new ↦ inr new.1 ];
      }

-- a place shows what its words have
pub shows_its_words : ShowsItsWords
shows_its_words = record { truly = shows_says 0; no_deadline = same_shown }
  where
    same_shown : (t : Terms) (d e : ℕ) (o : Outcome) (moment : ℕ) (a : About) → Shows (decided t d o moment) a → Shows (decided t e o moment) a
    same_shown t d e o moment Opened h = h
    same_shown t d e o moment (HasTerms s) h = h
    same_shown t d e o moment (Due f) h = h
    same_shown t d e o moment (Decided q) h = h
    same_shown t d e o moment (DecidedAt u) h = h
