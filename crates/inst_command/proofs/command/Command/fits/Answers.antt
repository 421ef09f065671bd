use Rattle.std.proofs.Common.{rules}
use Rattle.inst_command.proofs.command.Command.fits.Goals as goal

pub returns-then-allows : goal.returns-then-allows
returns-then-allows c = search rules
