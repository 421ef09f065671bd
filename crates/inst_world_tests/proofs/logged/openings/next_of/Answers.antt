use Rattle.std.proofs.Common.{ℕ, List, subst}
use Rattle.inst_settings.specs.Settings.{HubSettings}
use Rattle.inst_journal.specs.History.{History}
use Rattle.inst_journal.specs.Opened.{HasOpeningsLeft}
use Rattle.inst_world.specs.NextOpening.{CanOpenFrom, books_of}
use Rattle.inst_world.proofs.JournalsOpenWhereBooksCan.{few_can_open}
use Rattle.inst_world_tests.proofs.logged.openings.next_of.Goals as goal
