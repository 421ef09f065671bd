use Rattle.std.proofs.Common.{rules}
use Rattle.inst_books.proofs.replay.Replay.may_book.Goals as goal

pub returns-then-is_forwarded : goal.returns-then-is_forwarded
returns-then-is_forwarded c = search rules

pub returns-else-is_forwarded : goal.returns-else-is_forwarded
returns-else-is_forwarded c = search rules
