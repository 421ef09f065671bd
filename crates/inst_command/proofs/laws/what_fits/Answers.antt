use Rattle.inst_command.proofs.CommandsAndStepsThatFit.{commands_fit, steps_fit}
use Rattle.inst_command.proofs.laws.what_fits.Goals as goal

pub returns : goal.returns
returns c = λ s. (commands_fit s, steps_fit s)
