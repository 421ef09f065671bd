use Rattle.std.proofs.Common.{refl}
use Rattle.inst_options.proofs.table.subcommands.Goals as goal

pub returns : goal.returns
returns c = refl
