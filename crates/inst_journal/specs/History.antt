-- A contract's view of a journal: its events, oldest first, and its free capacity in events.
-- Keeping a history is a choice of this hub.
use Rattle.std.specs.Prelude.{ℕ, List}
use Rattle.inst_journal.specs.declared.event.Event.{Event}

pub record History : Type 0 where
  pub events : List Event
  pub room : ℕ
