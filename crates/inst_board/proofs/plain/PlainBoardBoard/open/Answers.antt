use Rattle.inst_board.proofs.PlainSteps.{opens_now}
use Rattle.inst_board.proofs.plain.PlainBoardBoard.open.Goals as goal

pub returns-clause-opened : goal.returns-clause-opened
returns-clause-opened c =
    opens_now c.args.self.now.settings.margin c.args.self.now c.args.place c.terms-terms.result c.args.deadline c.keep.new.self
    c.terms-terms.ensures c.requires.unused c.requires.deadline c.keep.ensures
