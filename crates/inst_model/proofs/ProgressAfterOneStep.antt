-- How far a transfer has come after one step, a delivery among them.
use Rattle.std.proofs.Common.{◌≡◌, ℕ, Bool, true, false, ◌||◌, ◌&&◌, not, cond, eqb, List, [], ◌∷◌, Option, Some, None, is_none, refl, sym, ap, ◌∙◌, inl, inr}
use Rattle.std.proofs.lemmas.Bool.{cases_Bool, eqb-true, eq-eqb}
use Rattle.std.proofs.lemmas.Option.{same_Some}
use Rattle.inst_settings.specs.Settings.{HubSettings, same_text}
use Rattle.inst_command.specs.declared.outcome.Outcome.{Outcome}
use Rattle.inst_command.specs.declared.step.Step.{Step}
use Rattle.inst_command.specs.declared.step.Step.TheVariants.{Ask, Deliver, Learn, Expire}
use Rattle.inst_journal.specs.declared.event.Event.{Event}
use Rattle.inst_journal.specs.declared.event.Event.TheVariants.{Forwarded}
use Rattle.inst_journal.specs.Booked.{or_else, is_forwarded, forwards, same_transfer}
use Rattle.inst_journal.proofs.OneMoreElement.{list_any_push, or-false, or_else-none}
use Rattle.inst_model.specs.Transfer.{Transfer, at_place, transfer, deadline, is_named}
use Rattle.inst_model.specs.Wants.{step_wants}
use Rattle.inst_model.specs.View.{comes}
use Rattle.inst_model.specs.View.Seen.{Came}
use Rattle.inst_model.specs.Kept.{with_entries}
use Rattle.inst_model.specs.Hub.{decided}
use Rattle.inst_model.specs.Locality.{step_on}
use Rattle.inst_model.specs.Locality.Touch.{Delivers, Expires}
use Rattle.inst_model.proofs.TextsTestsAndFirstThings.{same_transfer-true}
use Rattle.inst_model.proofs.Histories.{next}
use Rattle.inst_model.proofs.Transfers.{place_found}
use Rattle.inst_model.proofs.Mirror.{Together}
use Rattle.inst_model.proofs.Progress.{Says, progress, unforwarded_next, timing, silent, at_ask, with_forwarded}

coming_forwarded : (s : HubSettings) (q p : ℕ) (id : List ℕ) (J : List Event) (from : ℕ) (y : Transfer) (d : ℕ) (c : Bool)
    → is_forwarded p id (with_entries s q J (cond c (Came from y.id y.cents d ∷ []) [])) ≡ (is_forwarded p id J || (c && same_transfer p id from y.id))
coming_forwarded s q p id J from y d true = list_any_push (forwards p id) J (Forwarded from y.id y.cents d)
coming_forwarded s q p id J from y d false = sym (or-false (is_forwarded p id J))

coming_bits : (c there same undecided : Bool) → (same ≡ true → c ≡ (undecided && not there)) → (there || (c && same)) ≡ cond same (there || undecided) there
coming_bits c true true u e = refl
coming_bits c false true u e = and-true c ∙ e refl ∙ and-true u
  where
    and-true : (b : Bool) → (b && true) ≡ b
    and-true true = refl
    and-true false = refl
coming_bits true true false u e = refl
coming_bits true false false u e = refl
coming_bits false true false u e = refl
coming_bits false false false u e = refl

not_to : (a n there u : Bool) → cond ((a && false) && n) (there || u) there ≡ there
not_to true n there u = refl
not_to false n there u = refl

-- what a delivery does to whether the transfer x is forwarded
delivered : (s : HubSettings) (J : ℕ → List Event) (before : ℕ → List ℕ → Option Outcome) (from index p : ℕ) (id : List ℕ) (x : Transfer)
    → Together s J → transfer id (J p) ≡ Some x → (to_it : Bool) → (o : Option Transfer) → at_place from (J from) index ≡ o
    → is_forwarded p id (with_entries s x.to (J x.to) (cond to_it (comes s before from x.to (J x.to) o) []))
    ≡ cond ((eqb from p && to_it) && is_named id (at_place p (J p) index)) (is_forwarded p id (J x.to) || is_none (before p id)) (is_forwarded p id (J x.to))
delivered s J before from index p id x t found false o there =
    sym (not_to (eqb from p) (is_named id (at_place p (J p) index)) (is_forwarded p id (J x.to)) (is_none (before p id)))
delivered s J before from index p id x t found true None there =
    elim (cases_Bool (eqb from p)) [
      | inl same ↦
          let nothing : at_place p (J p) index ≡ None = ap (λ q. at_place q (J q) index) (sym (eqb-true from p same)) ∙ there in
          rw (same, nothing) refl
      | inr other ↦ rw other refl
    ]
delivered s J before from index p id x t found true (Some y) there =
    let there_now : Bool = is_forwarded p id (J x.to) in
    let undecided : Bool = is_none (before p id) in
    let c : Bool = (eqb y.to x.to && is_none (before from y.id)) && not (is_forwarded from y.id (J x.to)) in
    let same : Bool = same_transfer p id from y.id in
    coming_forwarded s x.to p id (J x.to) from y (deadline s y) c
    ∙ coming_bits c there_now same undecided
    (λ e.
    let names : (from ≡ p) × (y.id ≡ id) = same_transfer-true p id from y.id e in
    let itself : y ≡ x = same_Some y x (sym (ap (λ q. transfer y.id (J q)) (sym names.0) ∙ place_found s from (J from) index y (t.sound from) there) ∙ ap (λ (i : List ℕ). transfer i (J p)) names.1 ∙ found) in
    ap (λ (z : Transfer). (eqb z.to x.to && is_none (before from y.id)) && not (is_forwarded from y.id (J x.to))) itself
    ∙ ap (λ b. (b && is_none (before from y.id)) && not (is_forwarded from y.id (J x.to))) (eq-eqb x.to x.to refl)
    ∙ ap (λ q. is_none (before q y.id) && not (is_forwarded q y.id (J x.to))) names.0
    ∙ ap (λ (i : List ℕ). is_none (before p i) && not (is_forwarded p i (J x.to))) names.1)
    ∙ ap (λ b. cond b (there_now || undecided) there_now) (named_there (eqb from p) refl)
  where
    named_there : (b : Bool) → eqb from p ≡ b → (b && same_text y.id id) ≡ ((b && true) && is_named id (at_place p (J p) index))
    named_there false e = refl
    named_there true e = ap (is_named id) (sym (ap (λ q. at_place q (J q) index) (sym (eqb-true from p e)) ∙ there))

-- one step on a taken transfer
pub one_step : (s : HubSettings) (J : ℕ → List Event) (before : ℕ → List ℕ → Option Outcome) (step : Step) (p : ℕ) (id : List ℕ) (x : Transfer) → Together s J → transfer id (J p) ≡ Some x
    → Says s (is_forwarded p id (next s J before step x.to)) (or_else (before p id) (step_wants s J step p id x)) (progress s x (record { forwarded = is_forwarded p id (J x.to); decided = before p id }) (step_on J step p id x))
one_step s J before (Ask ask) p id x t found =
    with_forwarded s (is_forwarded p id (J x.to)) _ _ _ (unforwarded_next s J before (Ask ask) x.to p id (λ from index e. absurd cc)) (at_ask s J ask.who ask.at p id x (before p id) ask.command)
one_step s J before (Deliver from index to) p id x t found =
    deliver_says ((eqb from p && eqb to x.to) && is_named id (at_place p (J p) index)) (is_forwarded p id (J x.to)) (before p id)
    (is_forwarded p id (next s J before (Deliver from index to) x.to)) (delivered s J before from index p id x t found (eqb to x.to) (at_place from (J from) index) refl)
  where
    deliver_says : (b there : Bool) (decided : Option Outcome) (now : Bool) → now ≡ cond b (there || is_none decided) there → Says s now (or_else decided None) (progress s x (record { forwarded = there; decided = decided }) (cond b (Delivers ∷ []) []))
    deliver_says true there decided now e = record { forwarded_is = e; decided_is = or_else-none decided }
    deliver_says false there decided now e = record { forwarded_is = e; decided_is = or_else-none decided }
one_step s J before (Learn who from index) p id x t found =
    with_forwarded s (is_forwarded p id (J x.to)) _ _ _ (unforwarded_next s J before (Learn who from index) x.to p id (λ o k e. absurd cc)) (silent s x (is_forwarded p id (J x.to)) (before p id))
one_step s J before (Expire who index at) p id x t found =
    with_forwarded s (is_forwarded p id (J x.to)) _ _ _ (unforwarded_next s J before (Expire who index at) x.to p id (λ o k e. absurd cc))
    (timing s x at (Expires at) (eqb who p && is_named id (at_place p (J p) index)) (is_forwarded p id (J x.to)) (before p id) (λ g. refl))
