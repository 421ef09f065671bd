use Rattle.std.proofs.Common.{rules}
use Rattle.inst_books.proofs.replay.Replay.may_forward.Goals as goal

pub returns-then-not-is_forwarded : goal.returns-then-not-is_forwarded
returns-then-not-is_forwarded c = search rules

pub returns-else-not-is_forwarded : goal.returns-else-not-is_forwarded
returns-else-not-is_forwarded c = search rules
