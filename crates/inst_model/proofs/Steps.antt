-- What one step adds to a view and to a history, case by case.
use Rattle.std.proofs.Common.{◌≡◌, ℕ, Bool, true, false, ◌&&◌, ◌||◌, eqb, not, List, [], ◌∷◌, Option, Some, None, is_none, refl, ap, inl, inr, ◌⊎◌}
use Rattle.std.proofs.lemmas.Bool.{and_parts, or_cases, cond_both, eqb-true, not-true}
use Rattle.inst_settings.specs.Settings.{HubSettings}
use Rattle.inst_command.specs.declared.ask.Ask.{Ask as AskValue}
use Rattle.inst_command.specs.declared.outcome.Outcome.{Outcome}
use Rattle.inst_command.specs.declared.step.Step.{Step}
use Rattle.inst_command.specs.declared.step.Step.TheVariants.{Ask, Deliver, Learn, Expire}
use Rattle.inst_journal.specs.declared.event.Event.{Event}
use Rattle.inst_journal.specs.Booked.{is_forwarded, booked}
use Rattle.inst_model.specs.Transfer.{Transfer, at_place, deadline}
use Rattle.inst_model.specs.Wants.{wants}
use Rattle.inst_model.specs.Found.{found}
use Rattle.inst_model.specs.View.{Seen, sees, comes, tells, news}
use Rattle.inst_model.specs.View.Seen.{Asked, Came, Told}
use Rattle.inst_model.specs.Hub.{decided}
use Rattle.inst_model.proofs.TextsTestsAndFirstThings.{or_else_kept}

is_none-true : {A : Type 0} (o : Option A) → is_none o ≡ true → o ≡ None
is_none-true None e = refl
is_none-true (Some x) e = cc

-- a transfer comes
pub record Comes (s : HubSettings) (before : ℕ → List ℕ → Option Outcome) (from p : ℕ) (Jfrom J : List Event) (index : ℕ) (x : Transfer) : Type 0 where
  pub there : at_place from Jfrom index ≡ Some x
  pub addressed : x.to ≡ p
  pub undecided : before from x.id ≡ None
  pub new : is_forwarded from x.id J ≡ false

-- an outcome is told
pub record Tells (outcomes : ℕ → List ℕ → Option Outcome) (from p : ℕ) (Jfrom J : List Event) (index : ℕ) (x : Transfer) (o : Outcome) : Type 0 where
  pub there : at_place from Jfrom index ≡ Some x
  pub party : (p ≡ from) ⊎ (is_forwarded from x.id J ≡ true)
  pub outcome : outcomes from x.id ≡ Some o
  pub new : booked from x.id J ≡ None

comes_cases : (s : HubSettings) (before : ℕ → List ℕ → Option Outcome) (from p : ℕ) (Jfrom J : List Event) (index : ℕ) (found : Option Transfer) → at_place from Jfrom index ≡ found → (P : List Seen → Type 0) → P [] → ((x : Transfer) → Comes s before from p Jfrom J index x → P (Came from x.id x.cents (deadline s x) ∷ [])) → P (comes s before from p J found)
comes_cases s before from p Jfrom J index None is P nothing come = nothing
comes_cases s before from p Jfrom J index (Some x) is P nothing come =
    cond_both _ _ _ P
    (λ e.
    let outer : ((eqb x.to p && is_none (before from x.id)) ≡ true) × (not (is_forwarded from x.id J) ≡ true) = and_parts (eqb x.to p && is_none (before from x.id)) (not (is_forwarded from x.id J)) e in
    let inner : (eqb x.to p ≡ true) × (is_none (before from x.id) ≡ true) = and_parts (eqb x.to p) (is_none (before from x.id)) outer.0 in
    come x (record {
      there = is;
      addressed = eqb-true x.to p inner.0;
      undecided = is_none-true (before from x.id) inner.1;
      new = not-true _ outer.1;
    }))
    (λ e. nothing)

news_cases : (from : ℕ) (id : List ℕ) (o before : Option Outcome) (P : List Seen → Type 0) → P [] → ((outcome : Outcome) → o ≡ Some outcome → before ≡ None → P (Told from id outcome ∷ [])) → P (news from id o before)
news_cases from id (Some o) None P nothing tell = tell o refl refl
news_cases from id (Some o) (Some before) P nothing tell = nothing
news_cases from id None before P nothing tell = nothing

tells_cases : (outcomes : ℕ → List ℕ → Option Outcome) (from p : ℕ) (Jfrom J : List Event) (index : ℕ) (found : Option Transfer) → at_place from Jfrom index ≡ found → (P : List Seen → Type 0) → P [] → ((x : Transfer) (o : Outcome) → Tells outcomes from p Jfrom J index x o → P (Told from x.id o ∷ [])) → P (tells outcomes from p J found)
tells_cases outcomes from p Jfrom J index None is P nothing tell = nothing
tells_cases outcomes from p Jfrom J index (Some x) is P nothing tell =
    cond_both _ _ _ P
    (λ e. news_cases from x.id (outcomes from x.id) (booked from x.id J) P nothing
    (λ o some new. tell x o (record { there = is; party = party_of p from (is_forwarded from x.id J) e; outcome = some; new = new })))
    (λ e. nothing)
  where
    party_of : (p from : ℕ) (b : Bool) → (eqb p from || b) ≡ true → (p ≡ from) ⊎ (b ≡ true)
    party_of p from b e = elim (or_cases (eqb p from) b e) [ inl same ↦ inl (eqb-true p from same) | inr there ↦ inr there ]

-- all that a participant may see of a step
pub record Cases (s : HubSettings) (J : ℕ → List Event) (before : ℕ → List ℕ → Option Outcome) (step : Step) (p : ℕ) (P : List Seen → Type 0) : Type 0 where
  pub nothing : P []
  pub asked : (ask : AskValue) → step ≡ Ask ask → ask.who ≡ p →
      P (Asked ask.command ask.at (found (decided s J before step) p (J p) ask.command) ∷ [])
  pub came : (from index : ℕ) (x : Transfer) → step ≡ Deliver from index p → Comes s before from p (J from) (J p) index x →
      P (Came from x.id x.cents (deadline s x) ∷ [])
  pub told : (from index : ℕ) (x : Transfer) (o : Outcome) → Tells (decided s J before step) from p (J from) (J p) index x o →
      P (Told from x.id o ∷ [])

pub sees_cases : (s : HubSettings) (J : ℕ → List Event) (before : ℕ → List ℕ → Option Outcome) (step : Step) (p : ℕ) (P : List Seen → Type 0) → Cases s J before step p P → P (sees s J before (decided s J before step) step p)
sees_cases s J before (Ask ask) p P c =
    cond_both _ _ _ P (λ e. c.asked ask refl (eqb-true ask.who p e)) (λ e. c.nothing)
sees_cases s J before (Deliver from index to) p P c =
    cond_both _ _ _ P
    (λ e. comes_cases s before from p (J from) (J p) index (at_place from (J from) index) refl P c.nothing
    (λ x h. c.came from index x (ap (λ q. Deliver from index q) (eqb-true to p e)) h))
    (λ e. c.nothing)
sees_cases s J before (Learn who from index) p P c =
    cond_both _ _ _ P
    (λ e. tells_cases before from p (J from) (J p) index (at_place from (J from) index) refl P c.nothing
    (λ x o h. c.told from index x o (record {
      there = h.there;
      party = h.party;
      outcome = or_else_kept (before from x.id) (wants s J (Learn who from index) from x.id) o h.outcome;
      new = h.new;
    })))
    (λ e. c.nothing)
sees_cases s J before (Expire who index at) p P c =
    cond_both _ _ _ P
    (λ e. tells_cases (decided s J before (Expire who index at)) p p (J p) (J p) index (at_place p (J p) index) refl P c.nothing
    (λ x o h. c.told p index x o h))
    (λ e. c.nothing)
