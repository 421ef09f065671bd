use Rattle.std.proofs.Common.{rules}
use Rattle.inst_lines.proofs.line_buffer.is_too_long.Goals as goal

pub returns-then-is_long : goal.returns-then-is_long
returns-then-is_long c = search rules

pub returns-else-is_long : goal.returns-else-is_long
returns-else-is_long c = search rules
