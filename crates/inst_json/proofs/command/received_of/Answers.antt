use Rattle.std.proofs.Common.{rules}
use Rattle.inst_json.specs.Commands.{received_of}
use Rattle.inst_json.proofs.command.received_of.Goals as goal

pub returns-in_err-from-2-clause-value : goal.returns-in_err-from-2-clause-value
unfolding received_of
returns-in_err-from-2-clause-value c = search rules
