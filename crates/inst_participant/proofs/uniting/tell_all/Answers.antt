use Rattle.std.proofs.Common.{arith, [], ◌∷◌, ◌++◌}
use Rattle.std.specs.Vec.Iter.{into_iter_items}
use Rattle.std.proofs.lemmas.List.{nil_from_length}
use Rattle.inst_participant.proofs.BooksLawfulOverJoinedBoard.{more_told, teller_table, all_told}
use Rattle.inst_participant.proofs.uniting.tell_all.Goals as goal

pub join_sight-requires : goal.join_sight-requires
join_sight-requires c =
    let i = c.loop-sight.invariant.2 in
    record { one = teller_table c.args.whole c.args.sights.items i.0 (into_iter_items c.loop-sight.sight-iterator) (into_iter_items c.next.new.self) c.loop-sight.whole c.in-Some.sight c.in-Some.ensures.steps.0 c.requires.sights i.1 }

pub loop-sight-preserved : goal.loop-sight-preserved
loop-sight-preserved c =
    let i = c.loop-sight.invariant.2 in
    let j = c.join_sight.ensures in (
      tt,
      tt,
      (
        i.0 ++ c.in-Some.sight ∷ [],
        more_told c.args.whole c.args.sights.items i.0 (into_iter_items c.loop-sight.sight-iterator) (into_iter_items c.next.new.self) c.loop-sight.whole c.join_sight.new.self c.in-Some.sight
            c.in-Some.ensures.steps.0 i.1 j.both j.truly j.vouches j.stays,
      ),
    )

pub returns-clause-known : goal.returns-clause-known
returns-clause-known c =
    let i = c.loop-sight.invariant.2 in
    all_told c.args.whole c.args.sights.items i.0 (into_iter_items c.loop-sight.sight-iterator) c.loop-sight.whole (nil_from_length (into_iter_items c.loop-sight.sight-iterator) (omega (arith, c.loop-sight.sight-iterator.rest.ok, c.in-None.ensures.steps.0))) i.1
