use Rattle.std.proofs.Common.{rules}
use Rattle.inst_lines.proofs.replies.ReplyBuffer.write_to.Goals as goal

pub returns-clause-unflushed : goal.returns-clause-unflushed
returns-clause-unflushed g c = search rules
