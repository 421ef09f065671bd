use Rattle.std.proofs.Common.{false}
use Rattle.inst_board.specs.Standing.{pending}
use Rattle.inst_cell.proofs.KnowledgeAfterStep.{learns_as}
use Rattle.inst_cell.proofs.shared_board.board.SharedBoardBoard.open.Goals as goal

pub returns-clause-opened : goal.returns-clause-opened
returns-clause-opened c = λ t w.
    let e = c.put.ensures in
    learns_as c.args.self.now c.put.new.self c.args.place (pending t c.args.deadline) false c.requires.place e.stays.settings (e.learns t w) (w.1, (c.requires.deadline, e.moment)) (λ a h. absurd (e.new a (c.requires.place, h)))
