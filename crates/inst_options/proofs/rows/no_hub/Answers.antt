use Rattle.std.proofs.Common.{refl}
use Rattle.clap.proofs.OnLiterals.{clap_on_literals}
use Rattle.inst_options.specs.Rows.{NoHub}
use Rattle.inst_options.proofs.rows.no_hub.Goals as goal

row : NoHub
unfolding clap_on_literals
row = record { participants = refl; script = refl; drill = refl; subcommand = refl; help = refl; version = refl }

pub returns : goal.returns
returns c = row
