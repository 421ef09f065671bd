use Rattle.inst_slot.proofs.SlotOpensAgain.{others_may_open}
use Rattle.inst_slot.proofs.laws.others_may_open.Goals as goal

pub returns : goal.returns
returns g c = λ b d book other holder ne opens was may.
    let B = g.B.Board in
    others_may_open B.settings B.knows B.has_role B.stays (λ x y. g.met.B.Board.stays_settings x y) (λ x y p. g.met.B.Board.stays_roles x y p) b d book.settings book.who other _ holder ne was.truly opens may
