use Rattle.std.proofs.Common.{rules}
use Rattle.inst_participant.proofs.participant.Participant.expire.Goals as goal

pub returns-clause-may : goal.returns-clause-may
returns-clause-may c = search rules
