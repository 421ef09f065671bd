-- The histories of a hub that opens again from the journals of its participants. A choice of this
-- hub.
use Rattle.std.specs.Prelude.{ℕ, List, [], ◌∷◌, ◌++◌}
use Rattle.inst_journal.specs.declared.event.Event.{Event}
use Rattle.inst_journal.specs.declared.event.Event.TheVariants.{Opened}
use Rattle.inst_journal.specs.History.{History}
use Rattle.inst_world.specs.NextOpening.{books_of}

-- The history of each participant of a hub that opens from these journals.
abbrev pub histories_from : List History → ℕ → List Event
histories_from journals p = books_of journals p ++ Opened ∷ []
