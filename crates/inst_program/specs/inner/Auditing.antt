-- A log that was audited.
use Rattle.std.specs.Prelude.{ℕ, List}
use Rattle.inst_world.specs.HasRun.{world_settings}
use Rattle.inst_world.specs.NextOpening.{AreClosedBooks}
use Rattle.inst_program.specs.Auditing.{IsClosedAs}
use Rattle.inst_program.specs.Keeping.{HasContents}
use Rattle.inst_program.specs.inner.Changing.{hub_closed}
use Rattle.inst_program.specs.declared.auditing.AuditedLog.{AuditedLog}

-- The log's journals are closed books.
abbrev pub HasClosedBooks : AuditedLog → Type 0
HasClosedBooks log = AreClosedBooks (world_settings log.closed.runner.world) log.closed.journals.items

-- This is what the log of the file has, and its hub after its lines.
pub record IsAudited (file : List ℕ) (log : AuditedLog) : Type 0 where
  pub has : HasContents file log.contents.first.items log.contents.lines log.contents.digest
  pub closes : IsClosedAs file (hub_closed log.closed)
