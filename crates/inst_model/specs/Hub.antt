-- The whole hub over a list of steps, newest first: the view of each participant, its history, and
-- the outcome of each transfer, which the first step that gives one decides. One outcome for both
-- sides is the scheme's (EPC004-16, chapters 3 and 4); the steps, and that the first one decides,
-- are a choice of this hub.
use Rattle.std.specs.Prelude.{ℕ, List, [], ◌∷◌, ◌++◌, Option, Some, None}
use Rattle.inst_settings.specs.Settings.{HubSettings}
use Rattle.inst_command.specs.declared.outcome.Outcome.{Outcome}
use Rattle.inst_command.specs.declared.step.Step.{Step}
use Rattle.inst_journal.specs.declared.event.Event.{Event}
use Rattle.inst_journal.specs.Booked.{or_else, booked}
use Rattle.inst_model.specs.Opening.{Opening, beginning}
use Rattle.inst_model.specs.Transfer.{Transfer, at_place}
use Rattle.inst_model.specs.Wants.{wants}
use Rattle.inst_model.specs.View.{Seen, sees}
use Rattle.inst_model.specs.Kept.{history_of}

-- The outcome of a transfer after a step.
abbrev pub decided : HubSettings → (ℕ → List Event) → (ℕ → List ℕ → Option Outcome) → Step → ℕ →
    List ℕ → Option Outcome
decided s J before step p id = or_else (before p id) (wants s J step p id)

abbrev mutual
  -- The view of the participant p: the entries that it sees.
  pub view : HubSettings → Opening → List Step → ℕ → List Seen
  view s O [] p = []
  view s O (step ∷ past) p =
      view s O past p
      ++ sees s (λ q. history_of s O q (view s O past q)) (outcome s O past)
      (decided s (λ q. history_of s O q (view s O past q)) (outcome s O past) step) step p

  -- The outcome of the transfer with this identifier of the originator p.
  pub outcome : HubSettings → Opening → List Step → ℕ → List ℕ → Option Outcome
  outcome s O [] p id = booked p id (beginning O p)
  outcome s O (step ∷ past) p id =
      decided s (λ q. history_of s O q (view s O past q)) (outcome s O past) step p id

-- The history of the participant p.
abbrev pub history : HubSettings → Opening → List Step → ℕ → List Event
history s O L p = history_of s O p (view s O L p)

-- The outcome of the transfer, if there is one.
abbrev pub outcome_of : HubSettings → Opening → List Step → ℕ → Option Transfer → Option Outcome
outcome_of s O L p None = None
outcome_of s O L p (Some x) = outcome s O L p x.id

-- The outcome of the transfer at this place of the originator p.
abbrev pub outcome_at : HubSettings → Opening → List Step → ℕ → ℕ → Option Outcome
outcome_at s O L p index = outcome_of s O L p (at_place p (history s O L p) index)
