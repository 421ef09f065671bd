-- A transfer has at most one outcome, for both sides and for good (EPC004-16, chapter 4: a
-- confirmation or rejection is decided).
use Rattle.std.specs.Prelude.{◌≡◌, ℕ, List, ◌∷◌, ◌++◌, Some, Contains}
use Rattle.inst_settings.specs.Settings.{HubSettings}
use Rattle.inst_model.specs.Opening.{Opening, IsOpening}
use Rattle.inst_command.specs.declared.ask.Ask.{Ask as AskValue}
use Rattle.inst_command.specs.declared.outcome.Outcome.{Outcome}
use Rattle.inst_command.specs.declared.outcome.State.TheVariants.{Decided}
use Rattle.inst_command.specs.declared.step.Step.{Step}
use Rattle.inst_command.specs.declared.step.Step.TheVariants.{Ask}
use Rattle.inst_command.specs.declared.reply.Answer.TheVariants.{Reply}
use Rattle.inst_command.specs.declared.reply.Reply.TheVariants.{State}
use Rattle.inst_journal.specs.declared.event.Event.TheVariants.{Booked}
use Rattle.inst_model.specs.Hub.{outcome, history}
use Rattle.inst_model.specs.Trace.{answer}

-- An outcome in the reply to an ask is the transfer's.
abbrev pub AnsweredIsTheOutcome : Type 0
AnsweredIsTheOutcome =
    (s : HubSettings) (O : Opening) → IsOpening s O →
    (past : List Step) (ask : AskValue) (from : ℕ) (id : List ℕ) (o : Outcome) →
    answer s O past (Ask ask) ≡ Reply (State from id (Decided o)) →
    outcome s O (Ask ask ∷ past) from id ≡ Some o

-- An outcome that a side has booked is the transfer's.
abbrev pub BookedIsTheOutcome : Type 0
BookedIsTheOutcome =
    (s : HubSettings) (O : Opening) → IsOpening s O →
    (L : List Step) (p from : ℕ) (id : List ℕ) (o : Outcome) →
    Contains (history s O L p) (Booked from id o) → outcome s O L from id ≡ Some o

-- An outcome is the same after every longer list of steps, newest first.
abbrev pub OutcomeStays : Type 0
OutcomeStays =
    (s : HubSettings) (O : Opening) (later past : List Step) (from : ℕ) (id : List ℕ) (o : Outcome)
    →
    outcome s O past from id ≡ Some o → outcome s O (later ++ past) from id ≡ Some o
