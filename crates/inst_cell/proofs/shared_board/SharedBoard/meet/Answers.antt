use Rattle.inst_cell.proofs.TwoBoardsThatMeet.{both_still, both_met, vouches_met, truth_still}
use Rattle.inst_cell.proofs.shared_board.SharedBoard.meet.Goals as goal

pub returns-clause-mine : goal.returns-clause-mine
returns-clause-mine c =
    let one = c.inform.ensures in let two = c.inform-2.ensures in
    both_met c.args.self.now c.args.other.now c.inform.new.self c.inform.new.other c.inform-2.new.other one.stays.0.settings one.same one.yours two.yours

pub returns-clause-yours : goal.returns-clause-yours
returns-clause-yours c =
    let one = c.inform.ensures in let two = c.inform-2.ensures in
    both_still c.args.self.now c.args.other.now c.inform.new.other c.inform-2.new.self two.stays.0.settings two.same one.yours

pub returns-clause-truly : goal.returns-clause-truly
returns-clause-truly c =
    let one = c.inform.ensures in let two = c.inform-2.ensures in
    (two.truly, truth_still c.inform.new.other c.inform-2.new.self two.stays.0.settings two.same one.truly)

pub returns-clause-vouches : goal.returns-clause-vouches
returns-clause-vouches c =
    let one = c.inform.ensures in let two = c.inform-2.ensures in
    (vouches_met c.args.self.now c.args.other.now c.inform.new.self c.inform.new.other one.stays.0.settings one.same one.yours two.vouches, one.vouches)
