-- Positions sum to the net funding and what is untold.
use Rattle.std.proofs.Common.{◌≡◌, ℕ, ◌+◌, ◌-◌, ◌≤◌, ℤ, pos, ◌+ℤ◌, ◌-ℤ◌, List, Option, Some, None, subst, sym, ap, ◌∙◌, arith}
use Rattle.std.proofs.lemmas.Int.{ints}
use Rattle.inst_model.specs.Opening.{Opening, IsOpening}
use Rattle.inst_settings.specs.Settings.{HubSettings, participants}
use Rattle.inst_command.specs.declared.outcome.Outcome.{Outcome}
use Rattle.inst_command.specs.declared.outcome.Outcome.TheVariants.{Accepted, Rejected, TimedOut}
use Rattle.inst_command.specs.declared.step.Step.{Step}
use Rattle.inst_journal.specs.declared.event.Event.{Event}
use Rattle.inst_journal.specs.Money.{reserved, position}
use Rattle.inst_journal.specs.Sums.{funded, defunded, net, credits, debits, amount_unbooked}
use Rattle.inst_journal.specs.Booked.{own_booked}
use Rattle.inst_journal.proofs.OwnBookings.{own_booked-booked}
use Rattle.inst_journal.proofs.PlacesOfTakenAmounts.{never_overdrawn}
use Rattle.inst_model.specs.Hub.{outcome, history}
use Rattle.inst_model.specs.Interleaving.{IsInterleaving}
use Rattle.inst_model.specs.Untold.{sum_below, sum_over_participants, signed_total, if_untold}
use Rattle.inst_model.specs.Conservation.{MoneyIsConserved}
use Rattle.inst_model.proofs.Outcomes.{booked_outcome}
use Rattle.inst_model.proofs.AllHistoriesTogether.{together}
use Rattle.inst_model.proofs.BeneficiaryBooksAccepted.{accepted_booked}
use Rattle.inst_model.proofs.Totals.{sum_below_same, sum_below_zero, sum_below_both, signed_sum_is}
use Rattle.inst_model.proofs.HistoriesAgreeWithOutcomes.{Agree, accepted_in, untold_in, accepted_is, untold_reserved, nothing_untold}
use Rattle.inst_model.proofs.Credits.{credited_is_accepted}

position_sum : (f d c b r : ℕ) → d + b + r ≤ f + c → f + c - (d + b) + (d + b) ≡ f + c
position_sum f d c b r h = omega arith

balance : (x d b f c u : ℕ) → x + (d + b) ≡ f + c → c ≡ b + u → x + d ≡ f + u
balance x d b f c u e m = omega arith

-- positions and what was defunded are what was funded and what is untold
pub conserved : (s : HubSettings) (J : ℕ → List Event) (out : ℕ → List ℕ → Option Outcome) → Agree s J out → sum_over_participants s (λ p. position (J p)) + sum_over_participants s (λ p. defunded (J p)) ≡ sum_over_participants s (λ p. funded (J p)) + sum_over_participants s (untold_in J out)
conserved s J out agree =
    let n : ℕ = participants s in
    let each : sum_below n (λ p. position (J p) + (defunded (J p) + debits (J p))) ≡ sum_below n (λ p. funded (J p) + credits (J p)) =
    sum_below_same n _ _ (λ p below. position_sum (funded (J p)) (defunded (J p)) (credits (J p)) (debits (J p)) (reserved (J p)) (never_overdrawn s p (J p) (agree.all.sound p)).covered) in
    let left : sum_below n (λ p. position (J p) + (defunded (J p) + debits (J p))) ≡ sum_over_participants s (λ p. position (J p)) + sum_below n (λ p. defunded (J p) + debits (J p)) =
    sum_below_both n (λ p. position (J p)) (λ p. defunded (J p) + debits (J p)) in
    let inner : sum_below n (λ p. defunded (J p) + debits (J p)) ≡ sum_over_participants s (λ p. defunded (J p)) + sum_over_participants s (λ p. debits (J p)) = sum_below_both n (λ p. defunded (J p)) (λ p. debits (J p)) in
    let right : sum_below n (λ p. funded (J p) + credits (J p)) ≡ sum_over_participants s (λ p. funded (J p)) + sum_over_participants s (λ p. credits (J p)) = sum_below_both n (λ p. funded (J p)) (λ p. credits (J p)) in
    let moved : sum_over_participants s (λ p. credits (J p)) ≡ sum_over_participants s (λ p. debits (J p)) + sum_over_participants s (untold_in J out) =
    credited_is_accepted s J out agree ∙ sum_below_same n (accepted_in J out) (λ p. debits (J p) + untold_in J out p) (λ p below. accepted_is s J out agree p) ∙ sum_below_both n (λ p. debits (J p)) (untold_in J out) in
    balance (sum_over_participants s (λ p. position (J p))) (sum_over_participants s (λ p. defunded (J p))) (sum_over_participants s (λ p. debits (J p))) (sum_over_participants s (λ p. funded (J p))) (sum_over_participants s (λ p. credits (J p))) (sum_over_participants s (untold_in J out))
    (ap (λ m. sum_over_participants s (λ p. position (J p)) + m) (sym inner) ∙ sym left ∙ each ∙ right) moved

signed_balance : (x d f u : ℕ) → x + d ≡ f + u → pos x ≡ ((pos f -ℤ pos d) +ℤ pos u)
signed_balance x d f u e = omega (arith, ints)

-- the same, signed
pub signed_conserved : (s : HubSettings) (J : ℕ → List Event) (out : ℕ → List ℕ → Option Outcome) → Agree s J out → pos (sum_over_participants s (λ p. position (J p))) ≡ (signed_total s (λ p. net (J p)) +ℤ pos (sum_over_participants s (untold_in J out)))
signed_conserved s J out agree =
    signed_balance (sum_over_participants s (λ p. position (J p))) (sum_over_participants s (λ p. defunded (J p))) (sum_over_participants s (λ p. funded (J p))) (sum_over_participants s (untold_in J out)) (conserved s J out agree)
    ∙ ap (λ z. z +ℤ pos (sum_over_participants s (untold_in J out))) (sym (signed_sum_is (participants s) (λ p. funded (J p)) (λ p. defunded (J p))))

pub plus_nothing : (z : ℤ) (n : ℕ) → n ≡ 0 → (z +ℤ pos n) ≡ z
plus_nothing z n e = omega (arith, ints)

-- where nothing is untold
pub all_told_conserved : (s : HubSettings) (J : ℕ → List Event) (out : ℕ → List ℕ → Option Outcome) → Agree s J out → ((p : ℕ) → untold_in J out p ≡ 0) → pos (sum_over_participants s (λ p. position (J p))) ≡ signed_total s (λ p. net (J p))
all_told_conserved s J out agree none =
    signed_conserved s J out agree ∙ plus_nothing (signed_total s (λ p. net (J p))) (sum_over_participants s (untold_in J out)) (sum_below_zero (participants s) (untold_in J out) (λ p below. none p))

agree : (s : HubSettings) (O : Opening) → IsOpening s O → (L : List Step) → IsInterleaving s L → Agree s (history s O L) (outcome s O L)
agree s O opened L steps = record {
  all = together s O opened L steps;
  booked_is = λ q from id o e. booked_outcome s O opened L q from id o e;
  accepted_is_booked = λ from id e. accepted_booked s O opened L from id e;
}

-- an untold amount is reserved
reserved_while_untold : (out known : Option Outcome) (cents : ℕ) → if_untold out known cents ≤ amount_unbooked known cents
reserved_while_untold None None cents = omega arith
reserved_while_untold (Some Accepted) None cents = omega arith
reserved_while_untold (Some (Rejected reason)) None cents = omega arith
reserved_while_untold (Some TimedOut) None cents = omega arith
reserved_while_untold out (Some before) cents = omega arith

pub money_is_conserved : MoneyIsConserved
money_is_conserved s O opened L steps =
    let a : Agree s (history s O L) (outcome s O L) = agree s O opened L steps in
    record {
      sum = conserved s (history s O L) (outcome s O L) a;
      signed_sum = signed_conserved s (history s O L) (outcome s O L) a;
      all_told = λ told. all_told_conserved s (history s O L) (outcome s O L) a (λ p. nothing_untold (history s O L) (outcome s O L) p (told p));
      each_untold_is_reserved = λ p id to cents stamp there.
          subst (λ (known : Option Outcome). if_untold (outcome s O L p id) known cents ≤ amount_unbooked (own_booked id (history s O L p)) cents)
          (own_booked-booked s p (history s O L p) id (a.all.sound p)) (reserved_while_untold (outcome s O L p id) (own_booked id (history s O L p)) cents);
      untold_is_reserved = λ p. untold_reserved s (history s O L) (outcome s O L) p (a.all.sound p);
      never_overdrawn = λ p. never_overdrawn s p (history s O L p) (a.all.sound p);
    }
