use Rattle.inst_board.specs.declared.about.About.TheVariants.{Opened}
use Rattle.inst_board.specs.Standing.{about}
use Rattle.inst_hub_tests.proofs.shared.boards.submit.Goals as goal

pub open-requires-clause-unused : goal.open-requires-clause-unused
open-requires-clause-unused c = λ h. c.requires.can.unused ((c.write_terms.ensures.knowledge (about c.args.place Opened)).0 h)

pub returns-clause-opened : goal.returns-clause-opened
returns-clause-opened c = (c.open.ensures.opened c.args.terms.now c.write_terms.ensures.written).shown Opened tt
