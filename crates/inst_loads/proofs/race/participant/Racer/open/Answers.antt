use Rattle.inst_loads.proofs.BoardOfNewParticipant.{starts}
use Rattle.inst_loads.proofs.race.participant.Racer.open.Goals as goal

pub invariant_of-result : goal.invariant_of-result
invariant_of-result c = starts c.args.settings.now c.requires.0 c.args.who c.args.board c.in_ok-open.field-0 c.in_ok-copy.field-0 c.requires.1 c.in_ok-copy.ensures.ok c.in_ok-open.ensures.ok
