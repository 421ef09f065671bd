use Rattle.std.proofs.Common.{arith}
use Rattle.inst_journal.proofs.CountsOfEvents.{position_fits}
use Rattle.inst_journal.proofs.PaidAndReservedIsCovered.{covered}
use Rattle.inst_journal.proofs.queries.position.Goals as goal

pub overflow_cast-result : goal.overflow_cast-result
overflow_cast-result c =
    let fits = position_fits c.args.settings.now c.args.who c.args.events.now c.requires.lawful c.requires.sound in
    omega (arith, fits, c.position-position.ensures.counted)

pub overflow_cast-result-2 : goal.overflow_cast-result-2
overflow_cast-result-2 c =
    let fits = position_fits c.args.settings.now c.args.who c.args.events.now c.requires.lawful c.requires.sound in
    let within = covered c.args.settings.now c.args.who c.args.events.now c.requires.sound in
    omega (arith, fits, c.position-position.ensures.counted, c.position-position.ensures.value, c.reserved-reserved.ensures.value, within)

pub overflow_cast-result-3 : goal.overflow_cast-result-3
overflow_cast-result-3 c =
    let fits = position_fits c.args.settings.now c.args.who c.args.events.now c.requires.lawful c.requires.sound in
    omega (arith, fits, c.position-position.ensures.counted, c.saturating_sub-available.ensures)
