-- What the holder of a shared board knows after a step.
use Rattle.std.proofs.Common.{◌≡◌, ◌≢◌, ℕ, ◌*◌, ◌+◌, ◌/◌, ◌<◌, List, ◌∷◌, inl, inr, ⊎_elim, sym, refl, ap, ◌∙◌, subst, arith, Some, None, ◌⊎◌}
use Rattle.std.specs.Prelude.{Contains, Bool, true, false, Option, ◌↔◌}
use Rattle.std.proofs.lemmas.Nat.{same_from_place}
use Rattle.std.proofs.lemmas.Bool.Decides.{nat_tests}
use Rattle.inst_command.specs.declared.outcome.Outcome.{Outcome}
use Rattle.inst_command.specs.declared.outcome.Outcome.TheVariants.{Accepted, Rejected, TimedOut}
use Rattle.inst_settings.specs.Settings.{HubSettings}
use Rattle.inst_terms.specs.declared.terms.Terms.{Terms}
use Rattle.inst_terms.specs.declared.word.Word.{Word}
use Rattle.inst_terms.specs.declared.word.Word.TheVariants.{Unused, Pending, Decided as DecidedWord}
use Rattle.inst_terms.specs.Word.{IsWord, number, outcome_number}
use Rattle.inst_terms.proofs.WordsTellValuesApart.{words_apart}
use Rattle.inst_command.specs.declared.place.Place.{Place}
use Rattle.inst_board.specs.declared.wish.Wish.{Wish}
use Rattle.inst_board.specs.declared.wish.Wish.TheVariants.{Accept, Reject, Expire}
use Rattle.inst_board.specs.declared.place_state.PlaceState.TheVariants.{Unused as GlanceUnused, Pending as GlancePending, Decided as GlanceDecided}
use Rattle.inst_board.specs.declared.look.Look.{Look}
use Rattle.inst_board.specs.declared.look.Look.TheVariants.{Unused as LookUnused, Pending as LookPending, Decided as LookDecided}
use Rattle.inst_board.specs.declared.about.About.{About}
use Rattle.inst_board.specs.declared.about.About.TheVariants.{Opened, HasTerms, Due, Decided, DecidedAt}
use Rattle.inst_board.specs.declared.about.Fact.{Fact}
use Rattle.inst_board.specs.Standing.{Standing, unused, pending, decided, IsPlace, IsLawful, Says, Shows as WordsShow, word_of, look_of, place_state_of, about}
use Rattle.inst_board.specs.Learning.{Learns, Looks, AnswersWish, IsAnswer, IsParty}
use Rattle.inst_board.specs.Wish.{wanted}
use Rattle.inst_board.specs.Plain.{place_number}
use Rattle.inst_board.proofs.Places.{inside}
use Rattle.inst_board.proofs.PlainSteps.{shows_says}
use Rattle.inst_cell.specs.declared.view.View.{View}
use Rattle.inst_cell.specs.declared.view.Known.{Known}
use Rattle.inst_cell.specs.declared.shared_board.SharedBoard.{SharedBoard}
use Rattle.inst_cell.specs.View.{known, all_that_is_known, count, facts_of, note, view_after_learning, with_note}
use Rattle.inst_cell.specs.Rule.{encode, IsShowable}
use Rattle.inst_cell.specs.Steps.{ShowsWord, KnewOpening, KnewAnswer, KnewEnd}
use Rattle.inst_cell.specs.Held.{settings_of, view_of, knows_at, knows, has_role, wrote, stood, Stays}
use Rattle.inst_cell.proofs.RuleAfterStep.{read_true, IsSeen, read_all, read_moment, moment_unread, one_place, all_left, all_right, all_cases, itself}
use Rattle.inst_cell.proofs.Tally.{note_else}
use Rattle.inst_cell.proofs.Numbers.{owner_is}

abbrev made : ℕ → ℕ → Place
made owner index = record { owner = owner; index = index }

pub same_number : (s : HubSettings) (j k : Place) → IsPlace s j → IsPlace s k → place_number s j ≡ place_number s k → j ≡ k
same_number s j k hj hk e =
    let same = same_from_place j.owner j.index k.owner k.index s.places (inside s j hj).index (inside s k hk).index e in
    ap (λ (x : ℕ). made x j.index) same.0 ∙ ap (λ (x : ℕ). made k.owner x) same.1

pub lawful_of : (margin : ℕ) (p : Standing) → IsShowable margin p → IsLawful margin p
lawful_of margin unused h = tt
lawful_of margin (pending t d) h = h.1.0
lawful_of margin (decided t d o m) h = (h.1, h.2)

-- what a place shows is seen
shows_seen : (p : Standing) (a : About) → WordsShow p a → IsSeen a
shows_seen p Opened h = tt
shows_seen p (HasTerms t) h = tt
shows_seen p (Due d) h = tt
shows_seen p (Decided o) h = tt
shows_seen unused (DecidedAt n) h = absurd h
shows_seen (pending t d) (DecidedAt n) h = absurd h
shows_seen (decided t d o m) (DecidedAt n) h = absurd h

-- knowledge is of the settings and the view
pub knows_as : (s z : HubSettings) (v w : View) (f : Fact) → z ≡ s → w ≡ v → knows_at s v f → knows_at z w f
knows_as s z v w f e q h = subst (λ (u : View). knows_at z u f) (sym q) (subst (λ (x : HubSettings). knows_at x v f) (sym e) h)

module _ (b c : SharedBoard) (k : Place) (p : Standing) (mine : Bool) (place : IsPlace (settings_of b) k) (same : settings_of c ≡ settings_of b) (view : view_of c ≡ view_after_learning (view_of b) (place_number (settings_of b) k) p mine) where
  abbrev S : HubSettings
  S = settings_of b

  abbrev N : ℕ
  N = place_number (settings_of b) k

  pub then_knows : (f : Fact) → knows_at S (view_after_learning (view_of b) N p mine) f → knows c f
  then_knows f h = knows_as S (settings_of c) (view_after_learning (view_of b) N p mine) (view_of c) f same view h

  pub knew : (f : Fact) → knows c f → knows_at S (view_after_learning (view_of b) N p mine) f
  knew f h = knows_as (settings_of c) S (view_of c) (view_after_learning (view_of b) N p mine) f (sym same) (sym view) h

  pub says_known : (a : About) → IsSeen a → Says p a → knows c (about k a)
  says_known a seen h = then_knows (about k a) (place, all_right (view_of b) N p mine (known N a) (read_all N p mine a seen h))

  -- who decided the place knows at which reading
  pub moment_known : (n : ℕ) → mine ≡ true → Says p (DecidedAt n) → knows c (about k (DecidedAt n))
  moment_known n own h = then_knows (about k (DecidedAt n)) (place, all_right (view_of b) N p mine (known N (DecidedAt n)) (read_moment N p mine n own h))

  -- and nobody else learns it
  pub moment_still : (n : ℕ) → mine ≡ false → knows c (about k (DecidedAt n)) → knows b (about k (DecidedAt n))
  moment_still n other h = let was = knew (about k (DecidedAt n)) h in ⊎_elim
      (λ old. (was.0, old))
      (λ new. absurd (moment_unread N N p n (subst (λ (x : Bool). Contains (facts_of N p x) (known N (DecidedAt n))) other new)))
      (all_cases (view_of b) N p mine (known N (DecidedAt n)) was.1)

  -- a reading that is known was known, or is that of the decision
  pub moment_cases : (n : ℕ) → knows c (about k (DecidedAt n)) → knows b (about k (DecidedAt n)) ⊎ Says p (DecidedAt n)
  moment_cases n h = let was = knew (about k (DecidedAt n)) h in ⊎_elim
      (λ old. inl (was.0, old))
      (λ new. inr (read_true N p mine (known N (DecidedAt n)) new).1)
      (all_cases (view_of b) N p mine (known N (DecidedAt n)) was.1)

  pub learns_as : IsShowable (view_of b).margin p → ((a : About) → Contains (all_that_is_known (view_of b)) (known N a) → Says p a) → Learns S.margin knows b k p c
  learns_as showable agrees = record {
    lawful = subst (λ (m : ℕ). IsLawful m p) b.bounded (lawful_of (view_of b).margin p showable);
    agrees = λ a h. agrees a h.1;
    kept = λ f h. then_knows f (h.0, all_left (view_of b) N p mine (known (place_number S f.place) f.about) h.1);
    shown = λ a h. says_known a (shows_seen p a h) (shows_says S.margin p a h);
    only = λ f h. let was = knew f h in ⊎_elim
        (λ old. inl (was.0, old))
        (λ new. let t = read_true N p mine (known (place_number S f.place) f.about) new in inr (same_number S f.place k was.0 place t.0, t.1))
        (all_cases (view_of b) N p mine (known (place_number S f.place) f.about) was.1);
  }

pub learns_two : {B : Type 0} (m : ℕ) (knows : B → Fact → Type 0) (b c d : B) (k : Place) (p q : Standing) → Learns m knows b k p c → Learns m knows c k q d → Learns m knows b k q d
learns_two m knows b c d k p q one two = record {
  lawful = two.lawful;
  agrees = λ a h. two.agrees a (one.kept (about k a) h);
  kept = λ f h. two.kept f (one.kept f h);
  shown = two.shown;
  only = λ f h. ⊎_elim
      (λ mid. ⊎_elim (λ old. inl old) (λ new. inr (new.0, two.agrees f.about (subst (λ (j : Place). knows c (about j f.about)) new.0 mid))) (one.only f mid))
      (λ new. inr new)
      (two.only f h);
}

by_answer : {X : Type 0} (o : Outcome) → (IsAnswer o → X) → X ⊎ (o ≡ TimedOut)
by_answer Accepted f = inl (f tt)
by_answer (Rejected r) f = inl (f tt)
by_answer TimedOut f = inr refl

module _ (b : SharedBoard) (k : Place) (place : IsPlace (settings_of b) k) (p : Standing) (agrees : (a : About) → Contains (all_that_is_known (view_of b)) (known (place_number (settings_of b) k) a) → Says p a) where
  pub stood_from : KnewAnswer (place_number (settings_of b) k) (view_of b) p → (o : Outcome) → Says p (Decided o) → stood b k o
  stood_from answers o says = λ t h role. by_answer o (λ ans. (place, itself (view_of b) (known (place_number (settings_of b) k) (Decided o)) (answers t (agrees (HasTerms t) h.1) role o ans says).1))

  pub looks_as : (c : SharedBoard) → settings_of c ≡ settings_of b → view_of c ≡ view_after_learning (view_of b) (place_number (settings_of b) k) p false → IsShowable (view_of b).margin p
      → KnewOpening (place_number (settings_of b) k) (view_of b) p → KnewAnswer (place_number (settings_of b) k) (view_of b) p → KnewEnd (place_number (settings_of b) k) (view_of b) p → (look : Look) → look ≡ look_of p → Looks (settings_of b).margin knows has_role stood b k look c
  looks_as c same view showable opening answers ends look is = record {
    standing = p;
    learns = learns_as b c k p false place same view showable agrees;
    look_is = is;
    own = λ role a of says.
        let s = settings_of b in
        let owner : place_number s k / (view_of b).places ≡ k.owner = ap (λ (x : ℕ). place_number s k / x) b.based ∙ owner_is s k place in
        (place, itself (view_of b) (known (place_number s k) a) (opening (subst (λ (x : ℕ). 0 < count x (view_of b).roles) (sym owner) role) a of says));
    answered = λ t has role o ans says. let n = place_number (settings_of b) k in let was = answers t has role o ans says in ((place, itself (view_of b) (known n (HasTerms t)) was.0), (place, itself (view_of b) (known n (Decided o)) was.1));
    ended = λ role t has its o says.
        let s = settings_of b in
        let owner : place_number s k / (view_of b).places ≡ k.owner = ap (λ (x : ℕ). place_number s k / x) b.based ∙ owner_is s k place in
        (place, itself (view_of b) (known (place_number s k) (Decided o)) (ends (subst (λ (x : ℕ). 0 < count x (view_of b).roles) (sym owner) role) t has its o says));
    before = λ o says. stood_from answers o says;
    reading = λ moment h. moment_still b c k p false place same view moment refl h;
  }

-- the other half of `before`
pub knew_before : (k : ℕ) (v w : View) (n : ℕ) (s : ShowsWord ⊥ k v n w) → KnewOpening k v s.standing × KnewAnswer k v s.standing × KnewEnd k v s.standing
knew_before k v w n s = ⊎_elim (λ h. absurd h.0) (λ h. (h.1, h.2, h.3)) s.before

-- who only saw the place
pub not_mine : (k : ℕ) (v w : View) (n : ℕ) (s : ShowsWord ⊥ k v n w) → s.mine ≡ false
not_mine k v w n s = ⊎_elim (λ h. absurd h.0) (λ h. h.0) s.before

pub seen_only : (k : ℕ) (v w : View) (n : ℕ) (s : ShowsWord ⊥ k v n w) → w ≡ view_after_learning v k s.standing false
seen_only k v w n s = s.learns ∙ ap (λ (x : Bool). view_after_learning v k s.standing x) (not_mine k v w n s)

pub look_unused : (p : Standing) (w : Word) → w ≡ word_of p → w ≡ Unused → LookUnused ≡ look_of p
look_unused unused w e f = refl
look_unused (pending t d) w e f = cc
look_unused (decided t d o m) w e f = cc

pub look_pending : (p : Standing) (w : Word) (t : Terms) (d : ℕ) → w ≡ word_of p → w ≡ Pending d → ((u : Terms) → Says p (HasTerms u) → t ≡ u) → LookPending t d ≡ look_of p
look_pending unused w t d e f h = cc
look_pending (pending u c) w t d e f h = let x : d ≡ c = cc in let y : t ≡ u = h u refl in cc
look_pending (decided u c o m) w t d e f h = cc

pub look_decided : (p : Standing) (w : Word) (t : Terms) (o : Outcome) (m : ℕ) → w ≡ word_of p → w ≡ DecidedWord o m → ((u : Terms) → Says p (HasTerms u) → t ≡ u) → LookDecided t o ≡ look_of p
look_decided unused w t o m e f h = cc
look_decided (pending u c) w t o m e f h = cc
look_decided (decided u c z n) w t o m e f h = let x : o ≡ z = cc in let y : t ≡ u = h u refl in cc

-- the state of a place shows what a look shows, without the terms
pub glance_unused : (p : Standing) (w : Word) → w ≡ word_of p → w ≡ Unused → GlanceUnused ≡ place_state_of (look_of p)
glance_unused unused w e f = refl
glance_unused (pending t d) w e f = cc
glance_unused (decided t d o m) w e f = cc

pub glance_pending : (p : Standing) (w : Word) (d : ℕ) → w ≡ word_of p → w ≡ Pending d → GlancePending d ≡ place_state_of (look_of p)
glance_pending unused w d e f = cc
glance_pending (pending u c) w d e f = let x : d ≡ c = cc in cc
glance_pending (decided u c o m) w d e f = cc

pub glance_decided : (p : Standing) (w : Word) (o : Outcome) (m : ℕ) → w ≡ word_of p → w ≡ DecidedWord o m → GlanceDecided o ≡ place_state_of (look_of p)
glance_decided unused w o m e f = cc
glance_decided (pending u c) w o m e f = cc
glance_decided (decided u c z n) w o m e f = let x : o ≡ z = cc in cc

pub terms_of : (p : Standing) (w : Word) → w ≡ word_of p → w ≢ Unused → (t : Terms) × Says p (HasTerms t)
terms_of unused w e ne = absurd (ne e)
terms_of (pending t d) w e ne = (t, refl)
terms_of (decided t d o m) w e ne = (t, refl)

pub pending_not_unused : (w : Word) (d : ℕ) → w ≡ Pending d → w ≢ Unused
pending_not_unused w d e f = cc

pub decided_not_unused : (w : Word) (o : Outcome) (m : ℕ) → w ≡ DecidedWord o m → w ≢ Unused
decided_not_unused w o m e f = cc

pub opened_not_unused : (p : Standing) (w : Word) → Says p Opened → w ≡ word_of p → w ≡ Unused → ⊥
opened_not_unused unused w h e f = h
opened_not_unused (pending t d) w h e f = cc
opened_not_unused (decided t d o m) w h e f = cc

pub due_of : (p : Standing) (w : Word) (d : ℕ) → w ≡ word_of p → w ≡ Pending d → Says p (Due d)
due_of unused w d e f = let no : ⊥ = cc in absurd no
due_of (pending t c) w d e f = cc
due_of (decided t c o m) w d e f = let no : ⊥ = cc in absurd no

pub not_decided : (p : Standing) (w : Word) (d : ℕ) (o : Outcome) → w ≡ word_of p → w ≡ Pending d → Says p (Decided o) → ⊥
not_decided unused w d o e f h = h
not_decided (pending t c) w d o e f h = h
not_decided (decided t c z m) w d o e f h = cc

pub answers_decided : (margin : ℕ) (stood : Outcome → Type 0) (wish : Wish) (at : ℕ) (p : Standing) (w : Word) (o : Outcome) (m : ℕ) → w ≡ word_of p → w ≡ DecidedWord o m → ((z : Outcome) → Says p (Decided z) → stood z) → AnswersWish margin stood wish at p (Some o)
answers_decided margin stood wish at unused w o m e f h = let no : ⊥ = cc in absurd no
answers_decided margin stood wish at (pending t d) w o m e f h = let no : ⊥ = cc in absurd no
answers_decided margin stood wish at (decided t d z n) w o m e f h = (let x : o ≡ z = cc in ap Some x, inl (h z refl))

pub answers_pending : (margin : ℕ) (stood : Outcome → Type 0) (wish : Wish) (at : ℕ) (p : Standing) (w : Word) (d : ℕ) → w ≡ word_of p → w ≡ Pending d → wanted margin wish d at ≡ None → AnswersWish margin stood wish at p None
answers_pending margin stood wish at unused w d e f none = let no : ⊥ = cc in absurd no
answers_pending margin stood wish at (pending t c) w d e f none = let x : d ≡ c = cc in (refl, subst (λ (y : ℕ). wanted margin wish y at ≡ None) x none)
answers_pending margin stood wish at (decided t c o m) w d e f none = let no : ⊥ = cc in absurd no

-- the answer of an exchange: it took effect, or found what stood before
pub answers_settled : (margin : ℕ) (stood : Outcome → Type 0) (wish : Wish) (at : ℕ) (p : Standing) (w : Word) (d : ℕ) (want o : Outcome) (m n : ℕ) → w ≡ word_of p → w ≡ DecidedWord o m → n ≡ encode p → IsShowable margin p → IsWord (DecidedWord want at)
    → Says p (Due d) → wanted margin wish d at ≡ Some want → (n ≡ outcome_number want at) ⊎ ((z : Outcome) → Says p (Decided z) → stood z) → AnswersWish margin stood wish at p (Some o)
answers_settled margin stood wish at unused w d want o m n e f is can word due wants before = let no : ⊥ = cc in absurd no
answers_settled margin stood wish at (pending t c) w d want o m n e f is can word due wants before = let no : ⊥ = cc in absurd no
answers_settled margin stood wish at (decided t c z l) w d want o m n e f is can word due wants before = let x : o ≡ z = cc in (
  ap Some x,
  ⊎_elim
      (λ own.
      let same : DecidedWord z l ≡ DecidedWord want at = words_apart (DecidedWord z l) (DecidedWord want at) can.3 word (sym is ∙ own) in
      let z_is : z ≡ want = cc in
      let l_is : l ≡ at = cc in
      inr (subst (λ (y : ℕ). wanted margin wish y at ≡ Some z) due (wants ∙ ap Some (sym z_is)), l_is))
      (λ h. inl (h z refl))
      before,
)

-- an outcome that is read is the place's
pub decided_of : (p : Standing) (w : Word) (o z : Outcome) (m : ℕ) → w ≡ word_of p → w ≡ DecidedWord o m → Some o ≡ Some z → Says p (Decided z)
decided_of unused w o z m e f is = let no : ⊥ = cc in absurd no
decided_of (pending t d) w o z m e f is = let no : ⊥ = cc in absurd no
decided_of (decided t d q n) w o z m e f is = cc

-- an exchange that took effect is of its own reading
pub moment_own : (margin : ℕ) (p : Standing) (w : Word) (o want : Outcome) (m at n : ℕ) → w ≡ word_of p → w ≡ DecidedWord o m → n ≡ encode p → IsShowable margin p → IsWord (DecidedWord want at) → n ≡ outcome_number want at → Says p (DecidedAt at)
moment_own margin unused w o want m at n e f is can word own = let no : ⊥ = cc in absurd no
moment_own margin (pending t d) w o want m at n e f is can word own = let no : ⊥ = cc in absurd no
moment_own margin (decided t d z l) w o want m at n e f is can word own =
    let same : DecidedWord z l ≡ DecidedWord want at = words_apart (DecidedWord z l) (DecidedWord want at) can.3 word (sym is ∙ own) in cc

pub settled : (p : Standing) (w : Word) (d n : ℕ) → Says p (Due d) → w ≡ word_of p → n ≡ encode p → n ≢ number d 0 0 → (o : Outcome) × (m : ℕ) × (w ≡ DecidedWord o m)
settled unused w d n says e is moved = absurd says
settled (pending t c) w d n says e is moved = absurd (moved (is ∙ ap (λ (x : ℕ). number x 0 0) (sym says)))
settled (decided t c o m) w d n says e is moved = (o, m, e)

-- who may answer has the beneficiary's role
pub answers_party : (margin : ℕ) (has : ℕ → Type 0) (wish : Wish) (k : Place) (t : Terms) (d at : ℕ) (o : Outcome) → wanted margin wish d at ≡ Some o → IsParty has wish k t → IsAnswer o → has t.to
answers_party margin has Accept k t d at o e party ans = party
answers_party margin has (Reject r) k t d at o e party ans = party
answers_party margin has Expire k t d at Accepted e party ans = let no : ⊥ = grind (arith, nat_tests) in absurd no
answers_party margin has Expire k t d at (Rejected r) e party ans = let no : ⊥ = grind (arith, nat_tests) in absurd no
answers_party margin has Expire k t d at TimedOut e party ans = absurd ans

-- who may decide has a role of the two
pub a_party : (has : ℕ → Type 0) (wish : Wish) (k : Place) (t : Terms) → IsParty has wish k t → has k.owner ⊎ has t.to
a_party has Accept k t party = inr party
a_party has (Reject r) k t party = inr party
a_party has Expire k t party = party

-- what stood at an exchange stood before the load that found the place pending
pub stood_across : (b c : SharedBoard) (k : Place) (p q : Standing) (w : Word) (d : ℕ) → Stays b c → Learns (settings_of b).margin knows b k p c → w ≡ word_of p → w ≡ Pending d
    → ((a : About) → Contains (all_that_is_known (view_of c)) (known (place_number (settings_of c) k) a) → Says q a) → KnewAnswer (place_number (settings_of c) k) (view_of c) q → (o : Outcome) → Says q (Decided o) → stood b k o
stood_across b c k p q w d stays one e f agrees answers o says = λ t h role. by_answer o (λ ans.
    let later = one.kept (about k (HasTerms t)) h in
    let fact = (answers t (agrees (HasTerms t) later.1) (subst (λ (r : List ℕ). 0 < count t.to r) (sym stays.roles) role) o ans says).1 in
    ⊎_elim (λ old. old) (λ new. absurd (not_decided p w d o e f new.1)) (one.only (about k (Decided o)) (later.0, itself (view_of c) (known (place_number (settings_of c) k) (Decided o)) fact)))

-- a note of one place leaves those of others
pub wrote_still : (b c : SharedBoard) (k j : Place) (t : Terms) (h n : ℕ) → IsPlace (settings_of b) k → j ≢ k → h < 5 → Stays b c → view_of c ≡ with_note (view_of b) (place_number (settings_of b) k * 6 + h) n → wrote b j t → wrote c j t
wrote_still b c k j t h n place ne below stays view w = (
  subst (λ (s : HubSettings). IsPlace s j) (sym stays.settings) w.0,
  w.1,
  λ i small.
      ap (λ (v : View). note v.notes (place_number (settings_of c) j * 6 + i)) view
      ∙ (ap (λ (s : HubSettings). note ((place_number (settings_of b) k * 6 + h, n) ∷ (view_of b).notes) (place_number s j * 6 + i)) stays.settings
      ∙ (note_else (view_of b).notes (place_number (settings_of b) k * 6 + h) n (place_number (settings_of b) j * 6 + i)
      (λ e. ne (same_number (settings_of b) j k w.0 place (sym (one_place (place_number (settings_of b) k) (place_number (settings_of b) j) i h small below e).0)))
      ∙ w.2 i small)),
)

pub place_still : (b c : SharedBoard) (k : Place) → Stays b c → IsPlace (settings_of b) k → IsPlace (settings_of c) k
place_still b c k stays h = subst (λ (s : HubSettings). IsPlace s k) (sym stays.settings) h

pub knows_same : (b c : SharedBoard) (f : Fact) → settings_of c ≡ settings_of b → all_that_is_known (view_of c) ≡ all_that_is_known (view_of b) → knows c f ↔ knows b f
knows_same b c f e q = (
  λ h. (subst (λ (s : HubSettings). IsPlace s f.place) e h.0, subst (λ (s : HubSettings). Contains (all_that_is_known (view_of b)) (known (place_number s f.place) f.about)) e (subst (λ (l : List Known). Contains l (known (place_number (settings_of c) f.place) f.about)) q h.1)),
  λ h. (subst (λ (s : HubSettings). IsPlace s f.place) (sym e) h.0, subst (λ (s : HubSettings). Contains (all_that_is_known (view_of c)) (known (place_number s f.place) f.about)) (sym e) (subst (λ (l : List Known). Contains l (known (place_number (settings_of b) f.place) f.about)) (sym q) h.1)),
)

pub facts_noted : (v w : View) (x n : ℕ) → w ≡ with_note v x n → all_that_is_known w ≡ all_that_is_known v
facts_noted v w x n e = ap all_that_is_known e

pub wants_at : (m n : ℕ) (wish : Wish) (d at : ℕ) (o : Option Outcome) → m ≡ n → wanted m wish d at ≡ o → wanted n wish d at ≡ o
wants_at m n wish d at o e h = subst (λ (x : ℕ). wanted x wish d at ≡ o) e h

pub opened_too : (p : Standing) (a : About) → Says p a → Says p Opened
opened_too unused a h = h
opened_too (pending t d) a h = tt
opened_too (decided t d o m) a h = tt
