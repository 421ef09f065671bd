use Rattle.std.proofs.Common.{rules}
use Rattle.inst_command.proofs.step.Step.fits.Goals as goal

pub returns-then-has_participant : goal.returns-then-has_participant
returns-then-has_participant c = search rules

pub returns-else-has_participant : goal.returns-else-has_participant
returns-else-has_participant c = search rules
