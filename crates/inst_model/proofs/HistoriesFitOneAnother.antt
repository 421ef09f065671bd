-- The histories fit one another.
use Rattle.std.proofs.Common.{◌≡◌, ℕ, List, [], ◌∷◌, Some, refl, sym, subst, ◌∙◌, Contains}
use Rattle.std.proofs.lemmas.List.Elements.{Contains-append_left}
use Rattle.std.proofs.lemmas.Option.{same_Some}
use Rattle.inst_model.specs.Opening.{Opening, IsOpening, beginning}
use Rattle.inst_base.specs.TimeLimit.{deadline_of}
use Rattle.inst_settings.specs.Settings.{HubSettings}
use Rattle.inst_command.specs.declared.outcome.Outcome.TheVariants.{Accepted}
use Rattle.inst_command.specs.declared.step.Step.{Step}
use Rattle.inst_journal.specs.declared.event.Event.{Event}
use Rattle.inst_journal.specs.declared.event.Event.TheVariants.{Funded, Defunded, Taken, Forwarded, Booked, Fetched, Opened}
use Rattle.inst_journal.specs.Booked.{booked}
use Rattle.inst_model.specs.Transfer.{Transfer, transfers, deadline}
use Rattle.inst_model.specs.Hub.{outcome, history}
use Rattle.inst_model.specs.SoundAndFit.{HistoriesAreSound, HistoriesFit}
use Rattle.inst_model.proofs.TextsTestsAndFirstThings.{Each, Each_push, Each_weaker, Each_at, Each_contains}
use Rattle.inst_model.proofs.Histories.{by_step, persists_step}
use Rattle.inst_model.proofs.Outcomes.{booked_is_the_outcome}
use Rattle.inst_model.proofs.Transfers.{place_there, as_transfer}
use Rattle.inst_model.proofs.MirrorOfFittingHistories.{each_contained}
use Rattle.inst_model.proofs.HistoriesBeginSoundAndClosed.{beginning_closed}
use Rattle.inst_model.proofs.AllHistoriesTogether.{together}
use Rattle.inst_model.proofs.Events.{taken_event, each_there, taken_found, booked_there}
use Rattle.inst_model.proofs.BeneficiaryBooksAccepted.{accepted_booked}

pub histories_are_sound : HistoriesAreSound
histories_are_sound s O opened L steps p = (together s O opened L steps).sound p

-- a forwarding is of a taken transfer
abbrev IsOfTaken : HubSettings → (ℕ → List Event) → ℕ → Event → Type 0
IsOfTaken s J p (Forwarded from id cents d) = (stamp : ℕ) × Contains (J from) (Taken id p cents stamp) × (deadline_of s.limit stamp ≡ d)
IsOfTaken s J p (Funded funding) = Unit {0}
IsOfTaken s J p (Defunded funding) = Unit {0}
IsOfTaken s J p (Taken id to cents stamp) = Unit {0}
IsOfTaken s J p (Booked from id o) = Unit {0}
IsOfTaken s J p (Fetched count) = Unit {0}
IsOfTaken s J p Opened = Unit {0}

pub contains_later : (s : HubSettings) (O : Opening) (step : Step) (past : List Step) (p : ℕ) (event : Event) → Contains (history s O past p) event → Contains (history s O (step ∷ past) p) event
contains_later s O step past p event there = persists_step s O step past p (λ K. Contains K event) (λ K new before. Contains-append_left K (new ∷ []) event before) there

of_taken_later : (s : HubSettings) (O : Opening) (step : Step) (past : List Step) (p : ℕ) (event : Event) → IsOfTaken s (history s O past) p event → IsOfTaken s (history s O (step ∷ past)) p event
of_taken_later s O step past p (Forwarded from id cents d) is = (is.0, contains_later s O step past from (Taken id p cents is.0) is.1, is.2)
of_taken_later s O step past p (Funded funding) is = tt
of_taken_later s O step past p (Defunded funding) is = tt
of_taken_later s O step past p (Taken id to cents stamp) is = tt
of_taken_later s O step past p (Booked from id o) is = tt
of_taken_later s O step past p (Fetched count) is = tt
of_taken_later s O step past p Opened is = tt

begun : (s : HubSettings) (O : Opening) → IsOpening s O → (p : ℕ) (event : Event) → Contains (beginning O p) event → IsOfTaken s (beginning O) p event
begun s O opened p (Forwarded from id cents d) there = (beginning_closed s O opened).fit.forwarded_is_taken p from id cents d there
begun s O opened p (Funded funding) there = tt
begun s O opened p (Defunded funding) there = tt
begun s O opened p (Taken id to cents stamp) there = tt
begun s O opened p (Booked from id o) there = tt
begun s O opened p (Fetched count) there = tt
begun s O opened p Opened there = tt

all_of_taken : (s : HubSettings) (O : Opening) → IsOpening s O → (L : List Step) (p : ℕ) → Each (IsOfTaken s (history s O L) p) (history s O L p)
all_of_taken s O opened [] p = each_contained (IsOfTaken s (beginning O) p) (beginning O p) (begun s O opened p)
all_of_taken s O opened (step ∷ past) p =
    let J : ℕ → List Event = history s O (step ∷ past) in
    let P : Event → Type 0 = IsOfTaken s J p in
    let before : Each P (history s O past p) = Each_weaker (IsOfTaken s (history s O past) p) P (history s O past p) (of_taken_later s O step past p) (all_of_taken s O opened past p) in
    by_step s O step past p (λ K. Each P K) (record {
      nothing = before;
      funds = λ ask funding is command why. Each_push P (history s O past p) (Funded funding) before tt;
      defunds = λ ask funding is command why cover. Each_push P (history s O past p) (Defunded funding) before tt;
      takes = λ ask id to cents stamp is command why. Each_push P (history s O past p) (Taken id to cents stamp) before tt;
      forwards = λ from index x is why.
          let found = place_there from (history s O past from) index x why.there in
          let there : Contains (history s O past from) (Taken x.id x.to x.cents x.stamp) = Each_at (λ (t : Transfer). Contains (history s O past from) (taken_event t)) (transfers (history s O past from)) found.0 x (each_there (history s O past from)) found.1 in
          let ours : Contains (history s O past from) (Taken x.id p x.cents x.stamp) = subst (λ (q : ℕ). Contains (history s O past from) (Taken x.id q x.cents x.stamp)) why.addressed there in
          Each_push P (history s O past p) (Forwarded from x.id x.cents (deadline s x)) before (x.stamp, contains_later s O step past from (Taken x.id p x.cents x.stamp) ours, refl);
      books = λ from id o why. Each_push P (history s O past p) (Booked from id o) before tt;
      hands_out = λ ask max entry entries is command some. Each_push P (history s O past p) _ before tt;
    })

pub histories_fit : HistoriesFit
histories_fit s O opened L steps = record {
  forwarded_is_taken = λ p from id cents d there. Each_contains (IsOfTaken s (history s O L) p) (history s O L p) (Forwarded from id cents d) (all_of_taken s O opened L p) there;
  both_book_the_same = λ p q from id one other at_p at_q.
      same_Some one other (sym (booked_is_the_outcome s O opened L p from id one at_p) ∙ booked_is_the_outcome s O opened L q from id other at_q);
  paid_is_received = λ from id to cents stamp taken paid.
      let accepted : outcome s O L from id ≡ Some Accepted = booked_is_the_outcome s O opened L from from id Accepted paid in
      let was = accepted_booked s O opened L from id accepted in
      let same : was.0 ≡ as_transfer id to cents stamp = same_Some was.0 (as_transfer id to cents stamp) (sym was.1 ∙ taken_found s from (history s O L from) id to cents stamp (histories_are_sound s O opened L steps from) taken) in
      booked_there from id Accepted (history s O L to) (subst (λ (x : Transfer). booked from id (history s O L x.to) ≡ Some Accepted) same was.2);
}
