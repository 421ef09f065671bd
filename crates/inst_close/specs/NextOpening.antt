-- When the next hub can be opened from the books of a closed one, with more participants or under
-- other settings. A choice of this hub.
use Rattle.std.specs.Prelude.{◌≡◌, ℕ, List}
use mathlib.Core.List.{IsPrefix}
use Rattle.inst_settings.specs.Settings.{HubSettings}
use Rattle.inst_settings.specs.Lawful.{IsSettings}
use Rattle.inst_cell.specs.Opening.{MayOpen}
use Rattle.inst_journal.specs.Opened.{HasOpeningsLeft}
use Rattle.inst_model.specs.Opening.{BooksCanOpen}
use Rattle.inst_participant.specs.Wider.{widened}
use Rattle.inst_close.specs.ClosedHub.{ClosedHub}
use Rattle.inst_participant.specs.Together.{histories}

-- The books can be opened from, with participants of these codes after the existing ones.
-- - few: no book was opened from too often.
-- - settings: no code occurs twice, and there are not too many participants.
-- - seats: there are 1 to 16 tellers.
pub record MayOpenWider (closed : ClosedHub) (codes : List (List ℕ)) (tellers : ℕ) : Type 0 where
  pub few : (p : ℕ) → HasOpeningsLeft (histories closed.books p)
  pub settings : IsSettings (widened closed.settings codes)
  pub seats : MayOpen tellers

-- Moments are counted from the same base, and each participant keeps its number.
pub record KeepsBaseAndCodes (old new : HubSettings) : Type 0 where
  pub base : new.base ≡ old.base
  pub codes : IsPrefix old.codes new.codes

-- The books can be opened from under these settings.
-- - keeps: participants with codes after the existing ones join.
-- - settings: the settings are lawful.
-- - can: a hub of these settings can have the books, and none was opened from too often.
-- - seats: there are 1 to 16 tellers.
pub record MayOpenUnder (closed : ClosedHub) (s : HubSettings) (tellers : ℕ) : Type 0 where
  pub keeps : KeepsBaseAndCodes closed.settings s
  pub settings : IsSettings s
  pub can : BooksCanOpen s (histories closed.books)
  pub seats : MayOpen tellers
