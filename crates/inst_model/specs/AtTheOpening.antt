-- A hub just opened, before any step: nothing is untold, each statement is empty, and each
-- participant has the money of its book. A promise of this hub.
use Rattle.std.specs.Prelude.{◌≡◌, ℕ, []}
use Rattle.inst_settings.specs.Settings.{HubSettings}
use Rattle.inst_journal.specs.Living.{SameMoney}
use Rattle.inst_journal.specs.Statement.{statement}
use Rattle.inst_model.specs.Opening.{Opening, book}
use Rattle.inst_model.specs.Hub.{history}
use Rattle.inst_model.specs.Untold.{untold}

-- The state of a hub that was just opened.
pub record BeginsFromItsBooks (s : HubSettings) (O : Opening) : Type 0 where
  pub all_told : untold s O [] ≡ 0
  pub empty_statement : (p : ℕ) → statement (history s O [] p) ≡ []
  pub same_money : (p : ℕ) → SameMoney (book O p) (history s O [] p)

abbrev pub AnOpeningBeginsFromItsBooks : Type 0
AnOpeningBeginsFromItsBooks = (s : HubSettings) (O : Opening) → BeginsFromItsBooks s O
