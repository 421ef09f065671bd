-- Each outcome is in time for the clock reading that decided it (EPC004-16, chapter 4: time-out
-- deadline, positive and negative confirmation): an acceptance more than the margin before the
-- deadline, a rejection before the deadline, a time-out at it or after it. The margin is a choice
-- of this hub.
use Rattle.std.specs.Prelude.{◌≡◌, ℕ, ◌+◌, ◌<◌, ◌≤◌, List, ◌∷◌, Option, Some, None}
use Rattle.inst_settings.specs.Settings.{HubSettings}
use Rattle.inst_command.specs.declared.outcome.Outcome.{Outcome}
use Rattle.inst_command.specs.declared.outcome.Outcome.TheVariants.{Accepted, Rejected, TimedOut}
use Rattle.inst_command.specs.declared.step.Step.{Step}
use Rattle.inst_command.specs.declared.step.Step.TheVariants.{Ask, Deliver, Learn, Expire}
use Rattle.inst_model.specs.Opening.{Opening}
use Rattle.inst_model.specs.Transfer.{Transfer, transfer}
use Rattle.inst_model.specs.Hub.{outcome, history}

-- The clock reading of a step, if it has one.
abbrev pub reading : Step → Option ℕ
reading (Ask ask) = Some ask.at
reading (Deliver from index to) = None
reading (Learn who from index) = None
reading (Expire who index at) = Some at

-- The outcome of a transfer with this deadline is in time at the clock reading.
abbrev pub IsInTime : HubSettings → ℕ → ℕ → Outcome → Type 0
IsInTime s deadline at Accepted = at + s.margin < deadline
IsInTime s deadline at (Rejected reason) = at < deadline
IsInTime s deadline at TimedOut = deadline ≤ at

-- The step decides the transfer of p with this identifier, in time.
pub record DecidesInTime (s : HubSettings) (O : Opening) (past : List Step) (step : Step) (p : ℕ)
    (id : List ℕ) (o : Outcome) : Type 0 where
  pub terms : Transfer
  pub taken : transfer id (history s O past p) ≡ Some terms
  pub at : ℕ
  pub is_read : reading step ≡ Some at
  pub in_time : IsInTime s (terms.stamp + s.limit) at o

-- The law: a step that decides a transfer decides it in time.
abbrev pub EachOutcomeIsInTime : Type 0
EachOutcomeIsInTime =
    (s : HubSettings) (O : Opening) (past : List Step) (step : Step) (p : ℕ) (id : List ℕ)
    (o : Outcome) →
    outcome s O past p id ≡ None → outcome s O (step ∷ past) p id ≡ Some o →
    DecidesInTime s O past step p id o
