-- What a look, a decision and an opening over a plain board say of a place of which the transfer is known.
use Rattle.std.proofs.Common.{◌≡◌, ◌≢◌, ℕ, false, is_none, List, refl, sym, ap, ◌∙◌, subst, Option, Some, None}
use Rattle.inst_settings.specs.Settings.{HubSettings}
use Rattle.inst_command.specs.declared.outcome.Outcome.{Outcome}
use Rattle.inst_terms.specs.declared.terms.Terms.{Terms}
use Rattle.inst_command.specs.declared.place.Place.{Place}
use Rattle.inst_board.specs.declared.look.Look.{Look}
use Rattle.inst_board.specs.declared.wish.Wish.{Wish}
use Rattle.inst_board.specs.declared.about.About.TheVariants.{Opened, HasTerms, Due, Decided}
use Rattle.inst_board.specs.Standing.{Standing, unused, pending, decided, Says, about, look_of}
use Rattle.inst_board.specs.Wish.{wanted}
use Rattle.inst_board.specs.Learning.{Looks}
use Rattle.inst_board.specs.Plain.{Contents, standing_at, plain_knows, plain_stood, standing_after, outcome_of_standing}
use Rattle.inst_board.specs.Laws.{SayTheSame, Stands}
use Rattle.inst_board.proofs.PromisesExactOnPlainBoard.{looks_exactly, decides_exactly}
use Rattle.inst_journal.specs.Booked.{or_else}
use Rattle.inst_model.specs.Transfer.{Transfer, deadline}
use Rattle.inst_slot.specs.Asking.{Finds, stays_pending}
use Rattle.inst_world.specs.HasRun.{StandsWith, StandsFor, terms_of}

pub say_pending : (p : Standing) (t : Terms) (d : ℕ) → SayTheSame p (pending t d) → p ≡ pending t d
say_pending unused t d h = absurd ((h Opened).1 tt)
say_pending (pending u e) t d h =
    let terms : t ≡ u = (h (HasTerms t)).1 refl in
    let due : d ≡ e = (h (Due d)).1 refl in
    cc
say_pending (decided u e o m) t d h = absurd ((h (Decided o)).0 refl)

say_decided : (p : Standing) (t : Terms) (d : ℕ) (o : Outcome) (m : ℕ) → SayTheSame p (decided t d o m) → (n : ℕ) × (p ≡ decided t d o n)
say_decided unused t d o m h = absurd ((h Opened).1 tt)
say_decided (pending u e) t d o m h = absurd ((h (Decided o)).1 refl)
say_decided (decided u e z n) t d o m h =
    let terms : t ≡ u = (h (HasTerms t)).1 refl in
    let due : d ≡ e = (h (Due d)).1 refl in
    let outcome : o ≡ z = (h (Decided o)).1 refl in
    let same : decided u e z n ≡ decided t d o n = cc in
    (n, same)

say_unused : (p : Standing) → SayTheSame p unused → p ≡ unused
say_unused unused h = refl
say_unused (pending u e) h = absurd ((h Opened).0 tt)
say_unused (decided u e o m) h = absurd ((h Opened).0 tt)

pub same_with : (t : Terms) (d : ℕ) (o : Option Outcome) (p q : Standing) → SayTheSame q p → StandsWith t d o p → StandsWith t d o q
same_with t d None p q same is = say_pending q t d (subst (λ (x : Standing). SayTheSame q x) is same)
same_with t d (Some o) p q same is = say_decided q t d o is.0 (subst (λ (x : Standing). SayTheSame q x) is.1 same)

pub same_for : (s : HubSettings) (outcomes : List ℕ → Option Outcome) (x : Option Transfer) (p q : Standing) → SayTheSame q p → StandsFor s outcomes x p → StandsFor s outcomes x q
same_for s outcomes None p q same is = say_unused q (subst (λ (x : Standing). SayTheSame q x) is same)
same_for s outcomes (Some x) p q same is = same_with (terms_of x) (deadline s x) (outcomes x.id) p q same is

pub same_through : (p q r : Standing) → SayTheSame p q → SayTheSame q r → SayTheSame p r
same_through p q r one two a = (λ h. (two a).0 ((one a).0 h), λ h. (one a).1 ((two a).1 h))

-- a place that stands for a transfer is opened
pub stands_opened : (b : Contents) (k : Place) (t : Terms) (d : ℕ) (o : Option Outcome) → StandsWith t d o (standing_at b k) → plain_knows b (about k Opened)
stands_opened b k t d None is = subst (λ (p : Standing). Says p Opened) (sym is) tt
stands_opened b k t d (Some o) is = subst (λ (p : Standing). Says p Opened) (sym is.1) tt

-- the board says the same of all places
abbrev pub IsTheSame : Contents → Contents → Type 0
IsTheSame b c = (j : Place) → SayTheSame (standing_at c j) (standing_at b j)

-- the board says the same of all other places
abbrev pub IsTheSameElsewhere : Contents → Place → Contents → Type 0
IsTheSameElsewhere b k c = (j : Place) → j ≢ k → SayTheSame (standing_at c j) (standing_at b j)

-- a decision of the place of a transfer
pub record Settled (b c : Contents) (k : Place) (t : Terms) (d : ℕ) (before found : Option Outcome) (want : Option Outcome) : Type 0 where
  pub found_is : found ≡ or_else before want
  pub here : StandsWith t d found (standing_at c k)
  pub elsewhere : IsTheSameElsewhere b k c

module _ (margin : ℕ) (m c : Contents) (k : Place) (wish : Wish) (at : ℕ) (found : Option Outcome) (t : Terms) (d : ℕ) where
  from_pending : (w : Option Outcome) → wanted margin wish d at ≡ w → standing_at m k ≡ pending t d
      → (found ≡ outcome_of_standing (standing_after margin wish at (standing_at m k))) × Stands m k (standing_after margin wish at (standing_at m k)) c
      → (found ≡ w) × StandsWith t d found (standing_at c k)
  from_pending None want is exact =
      let stays : standing_after margin wish at (standing_at m k) ≡ pending t d =
      ap (standing_after margin wish at) is ∙ ap (λ (x : Option Outcome). elim x [ None ↦ pending t d | Some o ↦ decided t d o at ]) want in
      let none : found ≡ None = exact.0 ∙ ap outcome_of_standing stays in (
        none,
        subst (λ (o : Option Outcome). StandsWith t d o (standing_at c k)) (sym none)
            (say_pending (standing_at c k) t d (subst (λ (x : Standing). SayTheSame (standing_at c k) x) stays exact.1.here)),
      )
  from_pending (Some z) want is exact =
      let ends : standing_after margin wish at (standing_at m k) ≡ decided t d z at =
      ap (standing_after margin wish at) is ∙ ap (λ (x : Option Outcome). elim x [ None ↦ pending t d | Some o ↦ decided t d o at ]) want in
      let some : found ≡ Some z = exact.0 ∙ ap outcome_of_standing ends in (
        some,
        subst (λ (o : Option Outcome). StandsWith t d o (standing_at c k)) (sym some)
            (say_decided (standing_at c k) t d z at (subst (λ (x : Standing). SayTheSame (standing_at c k) x) ends exact.1.here)),
      )

  from_any : (before : Option Outcome) → StandsWith t d before (standing_at m k)
      → (found ≡ outcome_of_standing (standing_after margin wish at (standing_at m k))) × Stands m k (standing_after margin wish at (standing_at m k)) c
      → (found ≡ or_else before (wanted margin wish d at)) × StandsWith t d found (standing_at c k)
  from_any None is exact = from_pending (wanted margin wish d at) refl is exact
  from_any (Some z) is exact =
      let ends : standing_after margin wish at (standing_at m k) ≡ decided t d z is.0 = ap (standing_after margin wish at) is.1 in
      let some : found ≡ Some z = exact.0 ∙ ap outcome_of_standing ends in (
        some,
        subst (λ (o : Option Outcome). StandsWith t d o (standing_at c k)) (sym some)
            (say_decided (standing_at c k) t d z is.0 (subst (λ (x : Standing). SayTheSame (standing_at c k) x) ends exact.1.here)),
      )

-- a look shows what is there, and leaves all as it is
pub looked : (margin : ℕ) (b c : Contents) (k : Place) (look : Look) → Looks margin plain_knows (λ _ _. Unit {0}) plain_stood b k look c
    → (look ≡ look_of (standing_at b k)) × Stands b k (standing_at b k) c
looked margin b c k look h = looks_exactly margin b c k look h

pub finds_settle : (margin : ℕ) (b c : Contents) (k : Place) (wish : Wish) (at : ℕ) (found before : Option Outcome) (t : Terms) (d : ℕ) (stays : Contents → Contents → Type 0)
    → StandsWith t d before (standing_at b k) → Finds margin plain_knows (λ _ _. Unit {0}) plain_stood stays b k wish at found c
    → Settled b c k t d before found (wanted margin wish d at)
finds_settle margin b c k wish at found before t d stays is f =
    let seen = looks_exactly margin b f.between k f.look f.looks in
    let still : StandsWith t d before (standing_at f.between k) = same_with t d before (standing_at b k) (standing_at f.between k) seen.1.here is in
    let exact = decides_exactly margin f.between c k wish at found (stands_opened f.between k t d before still) f.decides in
    let r = from_any margin f.between c k wish at found t d before still exact in
    record {
      found_is = r.0;
      here = r.1;
      elsewhere = λ j other. same_through (standing_at c j) (standing_at f.between j) (standing_at b j) (exact.1.elsewhere j other) (seen.1.elsewhere j other);
    }

some_where_not_none : (o : Option Outcome) → is_none o ≡ false → (z : Outcome) × (o ≡ Some z)
some_where_not_none None is = let no : ⊥ = cc in absurd no
some_where_not_none (Some z) is = (z, refl)

-- where a look shows that something is to be booked, the wish finds an outcome
pub wish_finds : (margin : ℕ) (wish : Wish) (at : ℕ) (t : Terms) (d : ℕ) (before : Option Outcome) (p : Standing) (look : Look) → StandsWith t d before p → look ≡ look_of p
    → stays_pending margin wish at look ≡ false → (z : Outcome) × (or_else before (wanted margin wish d at) ≡ Some z)
wish_finds margin wish at t d None p look is seen books =
    some_where_not_none (wanted margin wish d at) (ap (stays_pending margin wish at) (sym (seen ∙ ap look_of is)) ∙ books)
wish_finds margin wish at t d (Some z) p look is seen books = (z, refl)
