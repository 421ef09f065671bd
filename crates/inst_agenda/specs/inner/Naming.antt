-- The transfer that a command names, by its originator and identifier (EPC004-16, chapter 4,
-- attributes: the originator's reference). A choice of this hub.
use Rattle.std.specs.Prelude.{ℕ, List, Option, Some, None}
use Rattle.inst_command.specs.declared.command.Command.{Command}
use Rattle.inst_command.specs.declared.command.Command.TheVariants.{Fund, Defund, Submit, Confirm}
use Rattle.inst_command.specs.declared.command.Command.TheVariants.{Reject, Investigate, Fetch}
use Rattle.inst_command.specs.declared.command.Command.TheVariants.{Query}

-- The transfer that a command of `who` submits, answers or investigates.
abbrev pub named_by : ℕ → Command → Option (ℕ × List ℕ)
named_by who (Submit submission) = Some (who, submission.id)
named_by who (Confirm from id) = Some (from, id)
named_by who (Reject from id reason) = Some (from, id)
named_by who (Investigate id) = Some (who, id)
named_by who (Fund funding) = None
named_by who (Defund funding) = None
named_by who (Fetch max) = None
named_by who (Query query) = None
