use Rattle.std.proofs.Common.{rules}
use Rattle.inst_json.proofs.read.is_json.Goals as goal

pub returns-then-is_ok : goal.returns-then-is_ok
returns-then-is_ok c = search rules

pub returns-else-is_ok : goal.returns-else-is_ok
returns-else-is_ok c = search rules
