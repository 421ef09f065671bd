use Rattle.std.proofs.Common.{◌-◌, length}
use Rattle.inst_participant.specs.Settling.{IsReadyToSettle, IsLater}
use Rattle.inst_participant.proofs.SettlementPlaceByPlace.{ArrivedBelow}
use Rattle.inst_participant.proofs.settling.learn_arrived.Given as goal

abbrev pub invariant-loop-position : goal.invariant-loop-position
invariant-loop-position g l =
    let b = g.B.Board in
    IsReadyToSettle b.settings b.knows b.has_role l.board l.slot
    × IsLater b.settings b.knows b.has_role b.stays l.fn.board l.fn.slot l.board l.slot
    × ArrivedBelow b.knows l.fn.board l.from l.slot

abbrev pub decreases-loop-position : goal.decreases-loop-position
decreases-loop-position g l = length l.slot.arrivals - l.from
