-- Steps that explain closed books: a hub in one thread that runs them from the opening leaves
-- exactly these books. So the promises of each run hold for these books, however they were made:
-- one outcome for each transfer, its money settled or released at most once, positions that sum to
-- the net funding and what is untold, and no participant overdrawn at the end. The order and the
-- clock readings are one choice that explains the books, not an observation. A choice of this hub.
use Rattle.std.specs.Prelude.{◌≡◌, ℕ, List, reverse, length}
use Rattle.inst_settings.specs.Settings.{HubSettings, participants}
use Rattle.inst_command.specs.declared.step.Step.{Step}
use Rattle.inst_journal.specs.declared.event.Event.{Event}
use Rattle.inst_journal.specs.History.{History}
use Rattle.inst_model.specs.Opening.{Opening}
use Rattle.inst_model.specs.Trace.{trace}
use Rattle.inst_world.specs.Headline.{run_of, KeepsTheHeadline}
use Rattle.inst_world.specs.NextOpening.{books_of}

-- A run of these steps from this opening, whose journals are the books, keeps the headline. By
-- `is_run` each step fits, and the books are the model's histories, event by event.
abbrev pub ExplainsBooks : HubSettings → Opening → List Step → (ℕ → List Event) → Type 0
ExplainsBooks s O steps books = KeepsTheHeadline s
    (run_of O steps books (trace s O (reverse steps)))

-- The same of journals, one for each participant by number.
pub record ExplainsJournals (s : HubSettings) (O : Opening) (steps : List Step)
    (journals : List History) : Type 0 where
  pub one_each : length journals ≡ participants s
  pub headline : ExplainsBooks s O steps (books_of journals)
