-- The deciders of a transfer. Only its beneficiary's confirmation accepts it, and only its
-- beneficiary's rejection rejects it (EPC004-16, chapter 4: positive and negative confirmation). It
-- times out at an answer of the beneficiary, or when its originator investigates it or lets its
-- place expire. The last is a choice of this hub.
use Rattle.std.specs.Prelude.{◌≡◌, ◌⊎◌, ℕ, true, List, ◌∷◌, Some, None}
use Rattle.inst_settings.specs.Settings.{HubSettings}
use Rattle.inst_command.specs.declared.command.Command.{Command}
use Rattle.inst_command.specs.declared.command.Command.TheVariants.{Confirm, Reject, Investigate}
use Rattle.inst_command.specs.declared.outcome.Outcome.{Outcome}
use Rattle.inst_command.specs.declared.outcome.Outcome.TheVariants.{Accepted, Rejected, TimedOut}
use Rattle.inst_command.specs.declared.step.Step.{Step}
use Rattle.inst_command.specs.declared.step.Step.TheVariants.{Ask, Expire}
use Rattle.inst_journal.specs.declared.event.Event.{Event}
use Rattle.inst_journal.specs.Booked.{is_forwarded}
use Rattle.inst_model.specs.Opening.{Opening}
use Rattle.inst_model.specs.Transfer.{Transfer, transfer, at_place, is_named}
use Rattle.inst_model.specs.Hub.{outcome, history}

-- The step of a command of `who` at this clock reading.
abbrev pub asks : ℕ → Command → ℕ → Step
asks who command at = Ask (record { who = who; command = command; at = at })

-- The beneficiary, to which the transfer was forwarded, confirms it.
abbrev pub IsConfirmation : (ℕ → List Event) → Step → ℕ → List ℕ → Transfer → Type 0
IsConfirmation J step p id x =
    (at : ℕ) × (step ≡ asks x.to (Confirm p id) at) × (is_forwarded p id (J x.to) ≡ true)

-- The beneficiary, to which the transfer was forwarded, rejects it with this reason.
abbrev pub IsRejection : (ℕ → List Event) → Step → ℕ → List ℕ → Transfer → List ℕ → Type 0
IsRejection J step p id x reason =
    (at : ℕ) × (step ≡ asks x.to (Reject p id reason) at) × (is_forwarded p id (J x.to) ≡ true)

-- The originator investigates it.
abbrev pub IsInvestigation : Step → ℕ → List ℕ → Type 0
IsInvestigation step p id = (at : ℕ) × (step ≡ asks p (Investigate id) at)

-- The originator lets its place expire.
abbrev pub IsExpiry : (ℕ → List Event) → Step → ℕ → List ℕ → Type 0
IsExpiry J step p id =
    (index : ℕ) × (at : ℕ) × (step ≡ Expire p index at)
    × (is_named id (at_place p (J p) index) ≡ true)

-- The step is one of a party that may give the transfer this outcome.
abbrev pub IsBy : (ℕ → List Event) → Step → ℕ → List ℕ → Transfer → Outcome → Type 0
IsBy J step p id x Accepted = IsConfirmation J step p id x
IsBy J step p id x (Rejected reason) = IsRejection J step p id x reason
IsBy J step p id x TimedOut =
    (IsConfirmation J step p id x ⊎ ((reason : List ℕ) × IsRejection J step p id x reason)) ⊎
    (IsInvestigation step p id ⊎ IsExpiry J step p id)

-- The step of a party decides the transfer of p with this identifier.
pub record IsAPartys (s : HubSettings) (O : Opening) (past : List Step) (step : Step) (p : ℕ)
    (id : List ℕ) (o : Outcome) : Type 0 where
  pub terms : Transfer
  pub taken : transfer id (history s O past p) ≡ Some terms
  pub by : IsBy (history s O past) step p id terms o

-- The law: a step that decides a transfer is one of a party.
abbrev pub EachOutcomeIsAPartys : Type 0
EachOutcomeIsAPartys =
    (s : HubSettings) (O : Opening) (past : List Step) (step : Step) (p : ℕ) (id : List ℕ)
    (o : Outcome) →
    outcome s O past p id ≡ None → outcome s O (step ∷ past) p id ≡ Some o →
    IsAPartys s O past step p id o
