use Rattle.inst_participant.specs.Parts.{AreLaterParts}
use Rattle.inst_participant.proofs.OneBookSettlesOthersStay.{SettledBelow}
use Rattle.inst_participant.proofs.settled.settle_each.Given as goal

abbrev pub invariant-loop-who : goal.invariant-loop-who
invariant-loop-who g l =
    let b = g.B.Board in
    AreLaterParts b.settings b.knows b.has_role b.stays l.fn.board l.fn.slots.items l.board l.slots.items
    × SettledBelow b.settings b.knows b.has_role b.stays (λ x y. g.met.B.Board.stays_settings x y) (λ x y p. g.met.B.Board.stays_roles x y p) (λ x y z. g.met.B.Board.stays_on x y z) (λ x. g.met.B.Board.stays_still x) (λ x k a. g.met.B.Board.knows_places x k a)
    l.board l.who l.slots.items
