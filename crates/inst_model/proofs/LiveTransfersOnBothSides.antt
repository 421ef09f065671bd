-- Live transfers are the same on both sides.
use Rattle.std.proofs.Common.{◌≡◌, ℕ, true, List, Option, Some, None, is_none, refl, sym, ap, subst, ◌∙◌, Contains}
use Rattle.std.proofs.lemmas.Option.{same_Some}
use Rattle.inst_base.specs.TimeLimit.{deadline_of}
use Rattle.inst_settings.specs.Settings.{HubSettings}
use Rattle.inst_command.specs.declared.outcome.Outcome.{Outcome}
use Rattle.inst_journal.specs.declared.event.Event.{Event}
use Rattle.inst_journal.specs.declared.event.Event.TheVariants.{Taken, Forwarded, Booked}
use Rattle.inst_journal.specs.Booked.{forwards, is_forwarded, booked}
use Rattle.inst_journal.specs.Sound.{IsSound}
use Rattle.inst_journal.proofs.TestOfOneThingFindsIt.{there_is_found}
use Rattle.inst_journal.proofs.KeyOnce.{taken_once, forwarded_once}
use Rattle.inst_model.specs.Opening.{beginning}
use Rattle.inst_model.specs.BothSides.{TheLiveAreTheSameOnBothSides, AtAnOpeningTheLiveHaveCome}
use Rattle.inst_model.specs.Fit.{BooksFit}
use Rattle.inst_model.specs.Hub.{history}
use Rattle.inst_model.specs.Transfer.{Transfer}
use Rattle.inst_model.proofs.TextsTestsAndFirstThings.{same_transfer_refl}
use Rattle.inst_model.proofs.HistoriesBeginSoundAndClosed.{beginning_closed, beginning_sound, beginning_booked, begins_carried}
use Rattle.inst_model.proofs.BookingsAreOfParties.{booked_found}
use Rattle.inst_model.proofs.Events.{taken_found}
use Rattle.inst_model.proofs.HistoriesFitOneAnother.{histories_fit}
use Rattle.inst_model.proofs.MirrorOfFittingHistories.{forwarding_there}
use Rattle.inst_model.proofs.LiveForwardedTransfers.{Living}
use Rattle.inst_model.proofs.AllHistoriesTogether.{together, live_together}
use Rattle.inst_model.proofs.Transfers.{as_transfer}

-- an event that forwards a transfer is found
pub forwarding_found : (from : ℕ) (id : List ℕ) (cents d : ℕ) (J : List Event) → Contains J (Forwarded from id cents d) → is_forwarded from id J ≡ true
forwarding_found from id cents d J there = there_is_found (forwards from id) (Forwarded from id cents d) J (same_transfer_refl from id) there

is_none_true : (o : Option Outcome) → is_none o ≡ true → o ≡ None
is_none_true None e = refl
is_none_true (Some x) e = cc

-- what was taken and has come has come with the amount and the deadline that were taken
pub came_as_taken : (s : HubSettings) (J : ℕ → List Event) → ((p : ℕ) → IsSound s p (J p)) → BooksFit s J → (from to : ℕ) (id : List ℕ) (cents stamp : ℕ) → Contains (J from) (Taken id to cents stamp) → is_forwarded from id (J to) ≡ true
    → Contains (J to) (Forwarded from id cents (deadline_of s.limit stamp))
came_as_taken s J sound fit from to id cents stamp taken forwarded =
    let event = forwarding_there from id (J to) forwarded in
    let was = fit.forwarded_is_taken to from id event.0 event.1 event.2 in
    let same : as_transfer id to event.0 was.0 ≡ as_transfer id to cents stamp =
    same_Some (as_transfer id to event.0 was.0) (as_transfer id to cents stamp) (sym (taken_found s from (J from) id to event.0 was.0 (sound from) was.1) ∙ taken_found s from (J from) id to cents stamp (sound from) taken) in
    let amount : event.0 ≡ cents = ap (λ (x : Transfer). x.cents) same in
    let ends : event.1 ≡ deadline_of s.limit stamp = sym was.2 ∙ ap (λ (x : Transfer). deadline_of s.limit x.stamp) same in
    let with_amount : Contains (J to) (Forwarded from id cents event.1) = subst (λ (c : ℕ). Contains (J to) (Forwarded from id c event.1)) amount event.2 in
    subst (λ (d : ℕ). Contains (J to) (Forwarded from id cents d)) ends with_amount

pub the_live_are_the_same_on_both_sides : TheLiveAreTheSameOnBothSides
the_live_are_the_same_on_both_sides s O opened L steps from to =
    let J : ℕ → List Event = history s O L in
    let t = together s O opened L steps in
    let living : Living J = live_together s O opened L steps in
    let fit : BooksFit s J = histories_fit s O opened L steps in
    record {
      what_came_was_sent = λ id cents d there live.
          let was = fit.forwarded_is_taken to from id cents d there in
          (was.0, was.1, was.2, sym (living to from id (forwarding_found from id cents d (J to) there)) ∙ live);
      what_was_sent_came = λ id cents stamp taken live forwarded.
          (came_as_taken s J t.sound fit from to id cents stamp taken forwarded, living to from id forwarded ∙ live);
      sent_once = λ id. taken_once s from id (J from) (t.sound from);
      came_once = λ id. forwarded_once s to from id (J to) (t.sound to);
    }

pub at_an_opening_the_live_have_come : AtAnOpeningTheLiveHaveCome
at_an_opening_the_live_have_come s O opened from to id cents stamp taken live =
    let none : booked from id (beginning O from) ≡ None = is_none_true (booked from id (beginning O from)) (sym (ap (λ C. is_none (booked from id C)) (begins_carried O from)) ∙ live) in
    let nobody : (p : ℕ) (o : Outcome) → Contains (beginning O p) (Booked from id o) → ⊥ = λ p o there.
    let booked_o : booked from id (beginning O from) ≡ Some o = beginning_booked s O opened p from id o (booked_found s p (beginning O p) from id o (beginning_sound s O opened p) there) in
    let clash : None ≡ Some o = sym none ∙ booked_o in cc in
    let came : Contains (beginning O to) (Forwarded from id cents (deadline_of s.limit stamp)) = (beginning_closed s O opened).pending_is_forwarded from id to cents stamp taken nobody in
    (forwarding_found from id cents (deadline_of s.limit stamp) (beginning O to) came, none)
