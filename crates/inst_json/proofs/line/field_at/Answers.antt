use Rattle.std.proofs.Common.{rules}
use Rattle.inst_json.proofs.line.field_at.Goals as goal

pub returns-in-None : goal.returns-in-None
returns-in-None c = search rules
