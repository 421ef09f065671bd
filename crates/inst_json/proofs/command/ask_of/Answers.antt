use Rattle.std.proofs.Common.{rules}
use Rattle.inst_json.specs.Commands.{ask_of, command_of}
use Rattle.inst_json.proofs.command.ask_of.Goals as goal

pub returns-in_ok-asker-in-Defund-clause-value : goal.returns-in_ok-asker-in-Defund-clause-value
unfolding ask_of command_of
returns-in_ok-asker-in-Defund-clause-value c = search rules
