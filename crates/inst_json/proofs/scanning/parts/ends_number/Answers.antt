use Rattle.std.proofs.Common.{rules}
use Rattle.inst_json.proofs.scanning.parts.ends_number.Goals as goal

pub returns-else-byte-eq125 : goal.returns-else-byte-eq125
returns-else-byte-eq125 c = search rules
