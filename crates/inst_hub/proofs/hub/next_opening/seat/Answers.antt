use Rattle.std.proofs.Common.{rules}
use Rattle.std.specs.Vec.Iter.{into_iter_items}
use Rattle.inst_hub.proofs.BoardOfReopenedHub.{one_pair, one_less}
use Rattle.inst_hub.specs.inner.NextOpening.{pairs, seated}
use Rattle.inst_hub.proofs.hub.next_opening.seat.Goals as goal

pub loop-slot-preserved : goal.loop-slot-preserved
loop-slot-preserved c =
    let i = c.loop-slot.invariant in
    let slots = into_iter_items c.loop-slot.slot-iterator in
    let slots_left = into_iter_items c.next.new.self in
    let boards = into_iter_items c.loop-slot.boards in
    let boards_left = into_iter_items c.next-in-loop-slot.new.self in (
      tt,
      tt,
      one_less c.in-Some.slot c.in-Some-next.board slots slots_left boards boards_left c.in-Some.ensures.steps.0 c.in-Some-next.ensures.items i.2,
      one_pair c.loop-slot.all.items c.push.new.self.items c.in_ok-new.field-0 c.in-Some.slot c.in-Some-next.board slots slots_left boards boards_left (pairs seated c.args.slots.items c.args.boards.items)
          c.in_ok-new.ensures.ok c.in_ok-push.ensures.items c.in-Some.ensures.steps.0 c.in-Some-next.ensures.items i.3,
    )

pub loop-slot-init : goal.loop-slot-init
loop-slot-init c = search rules
