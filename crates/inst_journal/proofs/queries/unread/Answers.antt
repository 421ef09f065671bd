use Rattle.std.proofs.Common.{arith}
use Rattle.inst_journal.proofs.HandedOutWithinInbox.{inbox_short}
use Rattle.inst_journal.proofs.queries.unread.Goals as goal

pub handed_out-read-requires : goal.handed_out-read-requires
handed_out-read-requires c = omega (arith, inbox_short c.args.events.now)
