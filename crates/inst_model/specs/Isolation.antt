-- Isolation: a participant gets nothing from other traffic beyond what it sees. Two lists of steps,
-- of any lengths, in which a participant begins with the same history and sees the same in the same
-- order give it the same replies, history, money and statement. A promise of this hub.
use Rattle.std.specs.Prelude.{◌≡◌, ℕ, List}
use Rattle.inst_settings.specs.Settings.{HubSettings}
use Rattle.inst_model.specs.Opening.{Opening, beginning}
use Rattle.inst_command.specs.declared.step.Step.{Step}
use Rattle.inst_journal.specs.Money.{reserved, position, available}
use Rattle.inst_journal.specs.Statement.{statement}
use Rattle.inst_model.specs.Hub.{view, history}
use Rattle.inst_model.specs.Trace.{replies}

-- The participant p gets the same of both lists of steps.
pub record SameFor (s : HubSettings) (O P : Opening) (L M : List Step) (p : ℕ) : Type 0 where
  pub same_replies : replies s O L p ≡ replies s P M p
  pub same_history : history s O L p ≡ history s P M p
  pub same_position : position (history s O L p) ≡ position (history s P M p)
  pub same_reserved : reserved (history s O L p) ≡ reserved (history s P M p)
  pub same_available : available (history s O L p) ≡ available (history s P M p)
  pub same_statement : statement (history s O L p) ≡ statement (history s P M p)

-- The law: equal beginnings and equal views give the same.
abbrev pub EqualViewsGiveEqualReplies : Type 0
EqualViewsGiveEqualReplies = (s : HubSettings) (O P : Opening) (L M : List Step) (p : ℕ) →
    beginning O p ≡ beginning P p → view s O L p ≡ view s P M p → SameFor s O P L M p
