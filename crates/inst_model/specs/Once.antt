-- Money is settled or released at most once (EPC004-16, chapter 4: one settlement a transfer). No
-- history books a transfer twice; the originator's amount is reserved until it has booked the
-- outcome, then debited or free; the beneficiary is credited exactly if it has booked `Accepted`.
use Rattle.std.specs.Prelude.{◌≡◌, ◌≢◌, ℕ, ◌≤◌, List, Some, None, count_by, is_some, Contains}
use Rattle.inst_settings.specs.Settings.{HubSettings}
use Rattle.inst_command.specs.declared.outcome.Outcome.{Outcome}
use Rattle.inst_command.specs.declared.outcome.Outcome.TheVariants.{Accepted}
use Rattle.inst_command.specs.declared.step.Step.{Step}
use Rattle.inst_journal.specs.declared.event.Event.{Event}
use Rattle.inst_journal.specs.declared.event.Event.TheVariants.{Taken, Forwarded}
use Rattle.inst_journal.specs.Booked.{books, booked}
use Rattle.inst_journal.specs.Sums.{credit, debit, reservation}
use Rattle.inst_journal.specs.OneOfThree.{if_released, IsOneOf}
use Rattle.inst_model.specs.Interleaving.{IsInterleaving}
use Rattle.inst_model.specs.Opening.{Opening, IsOpening}
use Rattle.inst_model.specs.Hub.{history}

-- The history J of p settles each transfer at most once.
pub record IsSettledOnce (p : ℕ) (J : List Event) : Type 0 where
  pub booked_once : (from : ℕ) (id : List ℕ) →
      count_by (λ event. is_some (books from id event)) J ≤ 1
  pub one_place : (id : List ℕ) (to cents stamp : ℕ) → Contains J (Taken id to cents stamp) →
      IsOneOf cents (reservation J (Taken id to cents stamp)) (debit J (Taken id to cents stamp))
      (if_released (booked p id J) cents)
  pub reserved_until_booked : (id : List ℕ) (to cents stamp : ℕ) →
      Contains J (Taken id to cents stamp) → booked p id J ≡ None →
      (reservation J (Taken id to cents stamp) ≡ cents) × (debit J (Taken id to cents stamp) ≡ 0)
  pub debited_if_accepted : (id : List ℕ) (to cents stamp : ℕ) →
      Contains J (Taken id to cents stamp) → booked p id J ≡ Some Accepted →
      (reservation J (Taken id to cents stamp) ≡ 0) × (debit J (Taken id to cents stamp) ≡ cents)
  pub free_otherwise : (id : List ℕ) (to cents stamp : ℕ) (o : Outcome) →
      Contains J (Taken id to cents stamp) →
      booked p id J ≡ Some o → o ≢ Accepted →
      (reservation J (Taken id to cents stamp) ≡ 0) × (debit J (Taken id to cents stamp) ≡ 0)
  pub credited : (from : ℕ) (id : List ℕ) (cents deadline : ℕ) →
      Contains J (Forwarded from id cents deadline) →
      booked from id J ≡ Some Accepted → credit J (Forwarded from id cents deadline) ≡ cents
  pub not_credited : (from : ℕ) (id : List ℕ) (cents deadline : ℕ) →
      Contains J (Forwarded from id cents deadline) →
      booked from id J ≢ Some Accepted → credit J (Forwarded from id cents deadline) ≡ 0

-- The law: `IsSettledOnce` after any interleaving.
abbrev pub MoneyIsSettledOnce : Type 0
MoneyIsSettledOnce =
    (s : HubSettings) (O : Opening) → IsOpening s O → (L : List Step) → IsInterleaving s L →
    (p : ℕ) →
    IsSettledOnce p (history s O L p)
