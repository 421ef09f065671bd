use Rattle.inst_slot.proofs.SlotOpensAgain.{lawful_moved}
use Rattle.inst_slot.proofs.laws.books_are_lawful_where_the_same_is_known.Goals as goal

pub returns : goal.returns
returns g c = λ b d book same role known lawful.
    let B = g.B.Board in
    let C = g.C.Board in
    lawful_moved B.settings B.knows B.has_role C.settings C.knows C.has_role b d book same role known lawful
