-- Replayed journals, each in its own ledger. A choice of this hub.
use Rattle.std.specs.Prelude.{◌≡◌, ℕ, ◌<◌, List, length}
use Rattle.inst_settings.specs.Settings.{HubSettings}
use Rattle.inst_journal.specs.declared.event.Event.{Event}
use Rattle.inst_journal.specs.History.{History}
use Rattle.inst_journal.specs.Opened.{HasOpeningsLeft}
use Rattle.inst_journal.specs.Sound.{IsSound}
use Rattle.inst_ledger.specs.Book.{BookAndRoom}
use Rattle.inst_world.specs.NextOpening.{books_of}
use Rattle.inst_books.specs.inner.Agreeing.{ledger_histories}

-- A history that a participant can open from, whatever the others have.
pub record CanBeBook (s : HubSettings) (who : ℕ) (J : List Event) : Type 0 where
  pub sound : IsSound s who J
  pub few : HasOpeningsLeft J

-- As many of the first journals as there are ledgers can be books, and are what the ledgers have.
pub record AreKeptJournals (s : HubSettings) (journals : List History)
    (ledgers : List BookAndRoom) : Type 0
  where
    pub can : (p : ℕ) → p < length ledgers → CanBeBook s p (books_of journals p)
    pub same : (p : ℕ) → p < length ledgers → ledger_histories ledgers p ≡ books_of journals p

-- Each of the journals is replayed in a ledger.
pub record AreAllKept (s : HubSettings) (journals : List History) (ledgers : List BookAndRoom) :
    Type 0 where
  pub one_each : length ledgers ≡ length journals
  pub kept : AreKeptJournals s journals ledgers
