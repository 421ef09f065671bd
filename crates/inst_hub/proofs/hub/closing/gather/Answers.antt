use Rattle.std.proofs.Common.{◌≡◌, arith, sym, ap, ◌∙◌, [], ◌∷◌, ◌++◌, Global}
use Rattle.std.proofs.lemmas.Grind.{common_steps}
use Rattle.std.specs.Vec.Iter.{into_iter_items}
use Rattle.std.specs.declared.vec.IntoIter.{IntoIter}
use Rattle.std.proofs.lemmas.List.{nil_from_length}
use Rattle.inst_row.specs.Row.{row_id, key_of}
use Rattle.inst_hub.specs.declared.teller.Teller.{Teller}
use Rattle.inst_hub.proofs.JoinedSeatsOfTellers.{first_gathered, more_gathered, its_seat, all_gathered, all_seen, all_sights}
use Rattle.inst_hub.proofs.hub.closing.gather.Goals as goal

pub loop-teller-init : goal.loop-teller-init
loop-teller-init c =
    let rest = into_iter_items c.into_iter-teller-iterator.result in
    let t : Teller = c.in-Some.field-0 in
    let e : c.args.tellers.items ≡ t ∷ rest = sym c.into_iter-tellers.ensures.rest ∙ (c.in-Some.ensures.items ∙ ap (λ (it : IntoIter Teller Global). t ∷ into_iter_items it) (sym c.into_iter-teller-iterator.ensures.into_iter_gives)) in (
      tt,
      tt,
      omega (arith, c.requires.room, c.push_reserved.ensures.capacity),
      (t ∷ [], first_gathered (row_id c.args.row.now) (key_of c.args.row.now) c.args.tellers.items rest t c.args.sights.now.items c.push_reserved.new.self.items c.requires.seated e c.requires.none c.push_reserved.ensures.items),
    )

pub join-requires-clause-on : goal.join-requires-clause-on
join-requires-clause-on c =
    let i = c.loop-teller.invariant.3 in
    let s = its_seat (row_id c.args.row.now) (key_of c.args.row.now) c.args.tellers.items i.0 (into_iter_items c.loop-teller.teller-iterator) (into_iter_items c.next-in-loop-teller.new.self) c.in-Some-teller.teller c.loop-teller.whole c.loop-teller.sights.items c.requires.seated i.1 c.in-Some-teller.ensures.steps.0 in
    (i.1.on, s.on)

pub join-requires-clause-idle : goal.join-requires-clause-idle
join-requires-clause-idle c =
    let i = c.loop-teller.invariant.3 in
    let s = its_seat (row_id c.args.row.now) (key_of c.args.row.now) c.args.tellers.items i.0 (into_iter_items c.loop-teller.teller-iterator) (into_iter_items c.next-in-loop-teller.new.self) c.in-Some-teller.teller c.loop-teller.whole c.loop-teller.sights.items c.requires.seated i.1 c.in-Some-teller.ensures.steps.0 in
    (i.1.idle, s.free.idle)

pub loop-teller-preserved : goal.loop-teller-preserved
loop-teller-preserved c =
    let i = c.loop-teller.invariant.3 in
    let j = c.join.ensures in
    let t : Teller = c.in-Some-teller.teller in (
      tt,
      tt,
      omega (arith, c.loop-teller.invariant.2, c.push_reserved-in-loop-teller.ensures.capacity),
      (
        i.0 ++ t ∷ [],
        more_gathered (row_id c.args.row.now) (key_of c.args.row.now) c.args.tellers.items i.0 (into_iter_items c.loop-teller.teller-iterator) (into_iter_items c.next-in-loop-teller.new.self) t c.loop-teller.whole c.join.new.seat c.loop-teller.sights.items c.push_reserved-in-loop-teller.new.self.items
            c.in-Some-teller.ensures.steps.0 i.1 j.on j.idle j.parts j.sees c.push_reserved-in-loop-teller.ensures.items,
      ),
    )

pub returns-clause-seen : goal.returns-clause-seen
returns-clause-seen c =
    let i = c.loop-teller.invariant.3 in
    let none = nil_from_length (into_iter_items c.loop-teller.teller-iterator) (omega (arith, c.loop-teller.teller-iterator.rest.ok, c.in-None.ensures.steps.0)) in
    all_seen (row_id c.args.row.now) (key_of c.args.row.now) c.args.tellers.items i.0 (into_iter_items c.loop-teller.teller-iterator) c.loop-teller.whole c.loop-teller.sights.items none i.1

pub returns-clause-all : goal.returns-clause-all
returns-clause-all c =
    let i = c.loop-teller.invariant.3 in
    let none = nil_from_length (into_iter_items c.loop-teller.teller-iterator) (omega (arith, c.loop-teller.teller-iterator.rest.ok, c.in-None.ensures.steps.0)) in
    all_gathered (row_id c.args.row.now) (key_of c.args.row.now) c.args.tellers.items i.0 (into_iter_items c.loop-teller.teller-iterator) c.loop-teller.whole c.loop-teller.sights.items none c.requires.parts i.1

pub returns-clause-sights : goal.returns-clause-sights
returns-clause-sights c =
    let i = c.loop-teller.invariant.3 in
    let none = nil_from_length (into_iter_items c.loop-teller.teller-iterator) (omega (arith, c.loop-teller.teller-iterator.rest.ok, c.in-None.ensures.steps.0)) in
    all_sights (row_id c.args.row.now) (key_of c.args.row.now) c.args.tellers.items i.0 (into_iter_items c.loop-teller.teller-iterator) c.loop-teller.whole c.loop-teller.sights.items none i.1

pub unreachable-requires : goal.unreachable-requires
unreachable-requires c = grind (arith, common_steps)

pub push_reserved-requires-in-loop-teller : goal.push_reserved-requires-in-loop-teller
push_reserved-requires-in-loop-teller c = grind (arith, common_steps)
