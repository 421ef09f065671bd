use Rattle.inst_slot.proofs.SlotOpensAgain.{may_open_first}
use Rattle.inst_slot.proofs.laws.any_may_open_first.Goals as goal

pub returns : goal.returns
returns g c = λ b who role nothing. may_open_first g.B.Board.settings g.B.Board.knows g.B.Board.has_role b who role nothing
