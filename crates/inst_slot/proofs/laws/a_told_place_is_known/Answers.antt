use Rattle.inst_slot.proofs.ToldPlaceIsKnown.{told_known}
use Rattle.inst_slot.proofs.laws.a_told_place_is_known.Goals as goal

pub returns : goal.returns
returns g c = told_known g.B.Board.settings g.B.Board.knows g.B.Board.has_role
