-- The outcome that an ask finds of a transfer: the one after the ask, for a confirmation or
-- rejection of a transfer that was forwarded to the asker, and for an investigation of one that the
-- asker has taken (EPC004-16, chapter 4: processing flow). Otherwise it finds none.
use Rattle.std.specs.Prelude.{ℕ, if◌then◌else◌, List, Option, None}
use Rattle.inst_command.specs.declared.command.Command.{Command}
use Rattle.inst_command.specs.declared.command.Command.TheVariants.{Fund, Defund, Submit, Confirm}
use Rattle.inst_command.specs.declared.command.Command.TheVariants.{Reject, Investigate, Fetch}
use Rattle.inst_command.specs.declared.command.Command.TheVariants.{Query}
use Rattle.inst_command.specs.declared.outcome.Outcome.{Outcome}
use Rattle.inst_journal.specs.declared.event.Event.{Event}
use Rattle.inst_journal.specs.Booked.{is_forwarded, is_taken}

-- The outcome that a command of `who`, whose history is J, finds among the outcomes after it.
abbrev pub found : (ℕ → List ℕ → Option Outcome) → ℕ → List Event → Command → Option Outcome
found after who J (Confirm from id) = if is_forwarded from id J then after from id else None
found after who J (Reject from id reason) = if is_forwarded from id J then after from id else None
found after who J (Investigate id) = if is_taken id J then after who id else None
found after who J (Fund funding) = None
found after who J (Defund funding) = None
found after who J (Submit submission) = None
found after who J (Fetch max) = None
found after who J (Query query) = None
