-- Commands that share no option with their subcommands.
use Rattle.std.specs.Prelude.{◌≡◌, false}
use Rattle.clap.specs.declared.builder.command.Command.{Command}
use Rattle.clap.specs.declared.builder.command.Command.TheViews.{out-Command}

-- No option of the command is also an option of its subcommands.
abbrev pub HasOwnOptions : Command → Type 0
HasOwnOptions command = (out-Command command).has_globals ≡ false
