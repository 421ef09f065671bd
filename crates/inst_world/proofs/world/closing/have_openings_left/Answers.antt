use Rattle.inst_world.proofs.JournalsOpenWhereBooksCan.{one_more_few, all_few}
use Rattle.inst_world.proofs.world.closing.have_openings_left.Goals as goal

pub loop-journal-preserved : goal.loop-journal-preserved
loop-journal-preserved c =
    one_more_few c.args.journals.now c.loop-journal.journal-index c.journal-item.result c.loop-journal-test.true c.journal-item.is
    (c.has_openings_left.ensures.left c.if-not-has_openings_left.false) c.loop-journal.invariant

pub returns-clause-few : goal.returns-clause-few
returns-clause-few c = λ yes. all_few c.args.journals.now c.loop-journal.journal-index c.loop-journal-test.false c.loop-journal.invariant
