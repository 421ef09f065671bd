-- No money is made or lost. Positions sum to the net funding plus what is untold, which is still
-- reserved at its originators; once each originator has booked its decided transfers, they sum to
-- the net funding alone. No participant is ever overdrawn. A promise of this hub.
use Rattle.std.specs.Prelude.{◌≡◌, ℕ, ◌+◌, ◌≤◌, pos, ◌+ℤ◌, true, List, Some, is_some, Contains}
use Rattle.inst_settings.specs.Settings.{HubSettings}
use Rattle.inst_command.specs.declared.outcome.Outcome.{Outcome}
use Rattle.inst_command.specs.declared.step.Step.{Step}
use Rattle.inst_journal.specs.declared.event.Event.TheVariants.{Taken}
use Rattle.inst_journal.specs.Booked.{booked}
use Rattle.inst_journal.specs.Sums.{net, funded, defunded, reservation}
use Rattle.inst_journal.specs.Money.{reserved, position}
use Rattle.inst_journal.specs.Covered.{IsNeverOverdrawn}
use Rattle.inst_model.specs.Interleaving.{IsInterleaving}
use Rattle.inst_model.specs.Opening.{Opening, IsOpening}
use Rattle.inst_model.specs.Hub.{outcome, history}
use Rattle.inst_model.specs.Untold.{sum_over_participants, signed_total, if_untold, untold_by}
use Rattle.inst_model.specs.Untold.{untold}

-- The originator of each decided transfer has booked it.
abbrev pub AllTold : HubSettings → Opening → List Step → Type 0
AllTold s O L =
    (p : ℕ) (id : List ℕ) (o : Outcome) → outcome s O L p id ≡ Some o →
    is_some (booked p id (history s O L p)) ≡ true

-- The sums after these steps, and what they say of each participant.
pub record IsConserved (s : HubSettings) (O : Opening) (L : List Step) : Type 0 where
  -- The sum without a subtraction.
  pub sum : sum_over_participants s (λ p. position (history s O L p))
      + sum_over_participants s (λ p. defunded (history s O L p))
      ≡ sum_over_participants s (λ p. funded (history s O L p)) + untold s O L
  pub signed_sum : pos (sum_over_participants s (λ p. position (history s O L p)))
      ≡ (signed_total s (λ p. net (history s O L p)) +ℤ pos (untold s O L))
  pub all_told : AllTold s O L →
      pos (sum_over_participants s (λ p. position (history s O L p)))
      ≡ signed_total s (λ p. net (history s O L p))
  pub untold_is_reserved : (p : ℕ) → untold_by s O L p ≤ reserved (history s O L p)
  pub each_untold_is_reserved : (p : ℕ) (id : List ℕ) (to cents stamp : ℕ) →
      Contains (history s O L p) (Taken id to cents stamp) →
      if_untold (outcome s O L p id) (booked p id (history s O L p)) cents
      ≤ reservation (history s O L p) (Taken id to cents stamp)
  pub never_overdrawn : (p : ℕ) → IsNeverOverdrawn (history s O L p)

-- The law: `IsConserved` after any interleaving.
abbrev pub MoneyIsConserved : Type 0
MoneyIsConserved =
    (s : HubSettings) (O : Opening) → IsOpening s O → (L : List Step) → IsInterleaving s L →
    IsConserved s O L
