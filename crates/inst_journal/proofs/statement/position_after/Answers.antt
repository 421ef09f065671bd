use Rattle.std.proofs.Common.{arith, rules}
use Rattle.inst_journal.proofs.CountsOfEvents.{position_fits}
use Rattle.inst_journal.proofs.statement.position_after.Goals as goal

pub overflow_cast-result : goal.overflow_cast-result
overflow_cast-result c =
    let fits = position_fits c.args.settings.now c.args.who c.args.front.now c.requires.lawful c.requires.sound in
    omega (arith, fits, c.position.ensures.counted)

pub returns : goal.returns
returns c = search rules
