use Rattle.std.proofs.Common.{rules}
use Rattle.inst_books.proofs.replay.Replay.may_open.Goals as goal

pub returns : goal.returns
returns c = search rules
