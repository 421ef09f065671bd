use Rattle.std.proofs.Common.{◌≡◌, ℕ, ◌<◌, length, subst, ◌∙◌, arith}
use Rattle.std.specs.Prelude.{◌↔◌}
use Rattle.inst_world.specs.inner.NextOpening.{IsOpenedBelow}
use Rattle.inst_cell.specs.Held.{settings_of, knows}
use Rattle.inst_hub.proofs.BoardOfReopenedHub.{none_opened, more_opened, carried_at, few_carried, carried_participant, carried_ends, carried_may}
use Rattle.inst_hub.proofs.hub.next_opening.open_places.Goals as goal

pub loop-slot-init : goal.loop-slot-init
loop-slot-init c = λ books are. none_opened (settings_of c.args.whole.now) books c.args.whole.now c.requires.whole

pub open_places-requires-clause-participant : goal.open_places-requires-clause-participant
open_places-requires-clause-participant c =
    let s = settings_of c.args.whole.now in
    let books = c.requires.carried.0 in
    let are = c.requires.carried.1 in
    let below : c.loop-slot.slot-index < length c.args.slots.now = omega arith in
    carried_participant s books c.loop-slot.slot-index c.slot-item.result (carried_at s books c.args.slots.now c.loop-slot.slot-index c.slot-item.result are below c.slot-item.is) (few_carried s books c.args.slots.now c.loop-slot.slot-index are below)

pub open_places-requires-clause-opened : goal.open_places-requires-clause-opened
open_places-requires-clause-opened c =
    let s = settings_of c.args.whole.now in
    let books = c.requires.carried.0 in
    let below : c.loop-slot.slot-index < length c.args.slots.now = omega arith in
    carried_ends s books c.loop-slot.slot-index c.slot-item.result (carried_at s books c.args.slots.now c.loop-slot.slot-index c.slot-item.result c.requires.carried.1 below c.slot-item.is)

pub open_places-requires-clause-board : goal.open_places-requires-clause-board
open_places-requires-clause-board c =
    let s = settings_of c.args.whole.now in
    let books = c.requires.carried.0 in
    let are = c.requires.carried.1 in
    let k = c.loop-slot.slot-index in
    let below : c.loop-slot.slot-index < length c.args.slots.now = omega arith in
    let so = c.loop-slot.invariant books are in
    carried_may s books k c.slot-item.result c.loop-slot.whole (carried_at s books c.args.slots.now k c.slot-item.result are below c.slot-item.is)
    (so.next k (omega arith) (few_carried s books c.args.slots.now k are below))

pub loop-slot-preserved : goal.loop-slot-preserved
loop-slot-preserved c = λ books are.
    let s = settings_of c.args.whole.now in
    let k = c.loop-slot.slot-index in
    let below : c.loop-slot.slot-index < length c.args.slots.now = omega arith in
    let e = c.open_places.ensures in
    more_opened s books k c.args.whole.now c.loop-slot.whole c.open_places.new.board c.slot-item.result (c.loop-slot.invariant books are) (few_carried s books c.args.slots.now k are below)
    (carried_at s books c.args.slots.now k c.slot-item.result are below c.slot-item.is) e.rest.holder e.truly e.opens

pub returns-clause-stays : goal.returns-clause-stays
returns-clause-stays c = (c.loop-slot.invariant c.requires.carried.0 c.requires.carried.1).stays

pub returns-clause-known : goal.returns-clause-known
returns-clause-known c = λ books are f.
    let s = settings_of c.args.whole.now in
    let end : c.loop-slot.slot-index ≡ length c.args.slots.now = omega arith in
    subst (λ (n : ℕ). knows c.loop-slot.whole f ↔ IsOpenedBelow s books n f) (end ∙ are.enough) ((c.loop-slot.invariant books are).known f)
