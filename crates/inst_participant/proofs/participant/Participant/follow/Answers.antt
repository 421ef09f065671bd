use Rattle.std.proofs.Common.{rules}
use Rattle.inst_participant.proofs.participant.Participant.follow.Goals as goal

pub returns-in-Deliver-clause-does : goal.returns-in-Deliver-clause-does
returns-in-Deliver-clause-does c = search rules
