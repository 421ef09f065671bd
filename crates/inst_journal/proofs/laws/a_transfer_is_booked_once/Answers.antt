use Rattle.inst_journal.proofs.CountsOfEvents.{booked_once}
use Rattle.inst_journal.proofs.laws.a_transfer_is_booked_once.Goals as goal

pub returns : goal.returns
returns c = booked_once
