use Rattle.std.proofs.Common.{rules}
use Rattle.inst_journal.proofs.booked.live_submissions.Goals as goal

pub returns : goal.returns
returns c = search rules
