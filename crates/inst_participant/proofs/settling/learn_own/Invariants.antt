use Rattle.inst_participant.specs.Settling.{IsReadyToSettle, IsLater}
use Rattle.inst_participant.proofs.SettlementPlaceByPlace.{OwnBelow}
use Rattle.inst_participant.proofs.settling.learn_own.Given as goal

abbrev pub invariant-loop-index : goal.invariant-loop-index
invariant-loop-index g l =
    let b = g.B.Board in
    IsReadyToSettle b.settings b.knows b.has_role l.board l.slot
    × IsLater b.settings b.knows b.has_role b.stays l.fn.board l.fn.slot l.board l.slot
    × OwnBelow b.knows l.fn.board l.index l.slot
