use Rattle.inst_slot.proofs.CommandsThatDecideNothing.{entered_alone}
use Rattle.inst_slot.proofs.slot.Slot.enter.Goals as goal

pub returns-in-Query-clause-enters : goal.returns-in-Query-clause-enters
returns-in-Query-clause-enters g c =
    let b = g.B.Board in
    entered_alone b.knows (b.settings c.args.board.now).margin c.args.board.now c.args.self.now c.args.ask.now c.answer_query.result c.answer_query.new.self c.answer_query.ensures

pub returns-in_default-clause-enters : goal.returns-in_default-clause-enters
returns-in_default-clause-enters g c =
    let b = g.B.Board in
    entered_alone b.knows (b.settings c.args.board.now).margin c.args.board.now c.args.self.now c.args.ask.now c.enter_alone.result c.enter_alone.new.self c.enter_alone.ensures
