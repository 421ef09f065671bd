use Rattle.inst_participant.specs.Settling.{IsReadyToSettle, IsLater}
use Rattle.inst_participant.proofs.SettlementPlaceByPlace.{AllComeBelow}
use Rattle.inst_participant.proofs.settling.deliver_all.Given as goal

abbrev pub invariant-loop-owner : goal.invariant-loop-owner
invariant-loop-owner g l =
    let b = g.B.Board in
    IsReadyToSettle b.settings b.knows b.has_role l.board l.slot
    × IsLater b.settings b.knows b.has_role b.stays l.fn.board l.fn.slot l.board l.slot
    × AllComeBelow b.knows l.fn.board l.owner l.slot
