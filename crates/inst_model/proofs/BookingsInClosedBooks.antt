-- In closed books the originator has booked what anyone has, and the beneficiary what was accepted.
use Rattle.std.proofs.Common.{◌≡◌, ℕ, true, List, Option, Some, sym, ap, subst, ◌∙◌, inl, inr, Contains}
use Rattle.std.proofs.lemmas.Bool.{true≢false}
use Rattle.inst_settings.specs.Settings.{HubSettings}
use Rattle.inst_command.specs.declared.outcome.Outcome.{Outcome}
use Rattle.inst_command.specs.declared.outcome.Outcome.TheVariants.{Accepted}
use Rattle.inst_journal.specs.declared.event.Event.{Event}
use Rattle.inst_journal.specs.declared.event.Event.TheVariants.{Taken}
use Rattle.inst_journal.specs.Booked.{is_forwarded, booked}
use Rattle.inst_journal.specs.Sound.{IsSound}
use Rattle.inst_journal.proofs.OwnBookings.{own_unforwarded}
use Rattle.inst_model.specs.Transfer.{Transfer, transfers, transfer}
use Rattle.inst_model.specs.Fit.{BooksAreClosed}
use Rattle.inst_model.proofs.TextsTestsAndFirstThings.{Each_at}
use Rattle.inst_model.proofs.Transfers.{taken_transfer, transfer_id, index_to_another}
use Rattle.inst_model.proofs.Events.{stands_somewhere}
use Rattle.inst_model.proofs.Events.{taken_event, each_there, booked_there}
use Rattle.inst_model.proofs.MirrorOfFittingHistories.{forwarding_there}
use Rattle.inst_model.proofs.BookingsAreOfParties.{booked_party, booked_found}

-- what an originator books
abbrev pub own : (ℕ → List Event) → ℕ → List ℕ → Option Outcome
own J from id = booked from id (J from)

pub originator_booked : (s : HubSettings) (J : ℕ → List Event) → ((p : ℕ) → IsSound s p (J p)) → BooksAreClosed s J → (q from : ℕ) (id : List ℕ) (o : Outcome) → booked from id (J q) ≡ Some o → own J from id ≡ Some o
originator_booked s J sound closed q from id o e = elim (booked_party s q from id o (J q) (sound q) e) [
  | inl ours ↦ ap (λ p. booked from id (J p)) ours.0 ∙ e
  | inr there ↦
      let event = forwarding_there from id (J q) there in
      let was = closed.fit.forwarded_is_taken q from id event.0 event.1 event.2 in
      booked_found s from (J from) from id o (sound from) (closed.originator_booked from id q event.0 was.0 q o was.1 (booked_there from id o (J q) e))
]

pub beneficiary_booked : (s : HubSettings) (J : ℕ → List Event) → ((p : ℕ) → IsSound s p (J p)) → BooksAreClosed s J → (from : ℕ) (id : List ℕ) → own J from id ≡ Some Accepted →
    (x : Transfer) × (transfer id (J from) ≡ Some x) × (booked from id (J x.to) ≡ Some Accepted) × (is_forwarded from id (J x.to) ≡ true)
beneficiary_booked s J sound closed from id e = elim (booked_party s from from id Accepted (J from) (sound from) e) [
  | inr there ↦ absurd (true≢false (sym there ∙ own_unforwarded s from id (J from) (sound from)))
  | inl ours ↦
      let found = taken_transfer id (J from) ours.1 in
      let x : Transfer = found.0 in
      let index = stands_somewhere id (J from) x found.1 in
      let event : Contains (J from) (taken_event x) = Each_at (λ (t : Transfer). Contains (J from) (taken_event t)) (transfers (J from)) index.0 x (each_there (J from)) index.1 in
      let named : Contains (J from) (Taken id x.to x.cents x.stamp) = subst (λ (i : List ℕ). Contains (J from) (Taken i x.to x.cents x.stamp)) (transfer_id id (J from) x found.1) event in
      let received : booked from id (J x.to) ≡ Some Accepted = booked_found s x.to (J x.to) from id Accepted (sound x.to) (closed.fit.paid_is_received from id x.to x.cents x.stamp named (booked_there from id Accepted (J from) e)) in
      let forwarded : is_forwarded from id (J x.to) ≡ true = elim (booked_party s x.to from id Accepted (J x.to) (sound x.to) received) [
        | inl itself ↦ absurd (index_to_another s from (J from) index.0 x (sound from) index.1 (sym itself.0))
        | inr there ↦ there
      ] in
      (x, found.1, received, forwarded)
]
