use Rattle.std.proofs.Common.{◌≡◌, length, take}
use Rattle.inst_slot.proofs.SlotOpensAgain.{taken_of, OpenedSoFar}
use Rattle.inst_slot.proofs.slot.Slot.open_places.Given as goal

abbrev pub invariant-loop-event : goal.invariant-loop-event
invariant-loop-event g l =
    let b = g.B.Board in
    let s = l.self in
    let taken = taken_of s.who s.events (take l.event-index s.events) in
    OpenedSoFar b.settings b.knows b.has_role b.stays l.fn.board l.board s.settings s.who taken × (l.index ≡ length taken)
