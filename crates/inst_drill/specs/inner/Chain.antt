-- A hub that is opened again and again, each time from the books that it left. That a drill does so
-- is a choice of this hub.
use Rattle.std.specs.Prelude.{◌≡◌, ℕ, ◌<◌, Option, Some, None}
use Rattle.inst_settings.specs.Settings.{HubSettings, participants}
use Rattle.inst_journal.specs.Opened.{openings}
use Rattle.inst_model.specs.Opening.{Opening, First, FromBooks}
use Rattle.inst_participant.specs.Together.{histories}
use Rattle.inst_close.specs.ClosedHub.{ClosedHub}

-- The books of a hub with these settings, which were opened from fewer than n times.
pub record IsAfter (s : HubSettings) (n : ℕ) (closed : ClosedHub) : Type 0 where
  pub settings : closed.settings ≡ s
  pub few : (p : ℕ) → p < participants s → openings (histories closed.books p) < n

-- The same of books that there may be.
abbrev pub AreAfter : HubSettings → ℕ → Option ClosedHub → Type 0
AreAfter s n None = Unit {0}
AreAfter s n (Some closed) = IsAfter s n closed

-- What the hub of the next opening begins from.
abbrev pub opening_of : Option ClosedHub → Opening
opening_of None = First
opening_of (Some closed) = FromBooks (histories closed.books)
