use Rattle.std.proofs.Common.{rules, ◌≡◌, ◌<◌, ap, ◌∙◌, sym, subst, arith, ◌∷◌, [], ◌++◌, List, length, length-append}
use Rattle.std.proofs.lemmas.Grind.{common_steps}
use Rattle.std.specs.Vec.Iter.{into_iter_items}
use Rattle.inst_row.specs.Row.{row_id, key_of}
use Rattle.inst_row.specs.Seated.{view_of}
use Rattle.inst_hub.specs.declared.teller.Teller.{Teller}
use Rattle.inst_hub.specs.Opening.{IsNew, AreNew, row_parts}
use Rattle.inst_hub.proofs.BoardsAndTellersOfNewHub.{nothing_left, next_sight, blank_next, blank_last, few_before, one_teller, parts_more}
use Rattle.inst_hub.proofs.hub.opening.admit.Goals as goal

pub loop-sight-preserved : goal.loop-sight-preserved
loop-sight-preserved c =
    let i = c.loop-sight.invariant in
    let halves = c.split-seat.ensures.halves in
    let rest = into_iter_items c.loop-sight.sight-iterator in
    let after = into_iter_items c.next.new.self in
    let sight = c.in-Some-sight.sight in
    let is = c.in-Some-sight.ensures.steps.0 in
    let teller : Teller = record { sight = sight; seat = c.split-seat.result } in
    let new : IsNew (row_id c.args.row.now) (key_of c.args.row.now) (view_of c.args.seat).fronts teller = record {
      on = c.split-seat.ensures.on.1;
      free = halves.free;
      seen = halves.told ∙ i.4;
      blank = blank_next (key_of c.args.row.now).words.value c.loop-sight.yielded rest after c.args.sights.items sight c.in-Some.last c.requires.sights.1 i.5 is;
    } in
    let pushed = c.in_ok-push.ensures.items in
    let longer = length-append c.loop-sight.yielded (sight ∷ []) in
    let more = length-append c.loop-sight.all.items (teller ∷ []) in
    let all_length : length c.push.new.self.items ≡ length (c.loop-sight.all.items ++ teller ∷ []) = ap length pushed in
    let all_parts : row_parts c.push.new.self.items ≡ row_parts (c.loop-sight.all.items ++ teller ∷ []) = ap row_parts pushed in
    let parts = parts_more c.loop-sight.all.items teller in
    let old_length = i.6 in
    let left = i.8 in
    let given = i.9 in
    let less = halves.parts in
    let one = halves.part in (
      tt,
      tt,
      c.split-seat.ensures.on.0,
      halves.idle,
      halves.seen ∙ i.4,
      next_sight c.loop-sight.yielded rest after c.args.sights.items sight c.in-Some.last i.5 is,
      omega arith,
      subst (λ (l : List Teller). AreNew (row_id c.args.row.now) (key_of c.args.row.now) (view_of c.args.seat).fronts l) (sym pushed)
          (one_teller (row_id c.args.row.now) (key_of c.args.row.now) (view_of c.args.seat).fronts c.loop-sight.all.items teller i.7 new),
      omega arith,
      omega arith,
    )

pub returns-clause-new : goal.returns-clause-new
returns-clause-new c =
    let i = c.loop-sight.invariant in
    let rest = into_iter_items c.loop-sight.sight-iterator in
    let none : rest ≡ [] = nothing_left rest (search rules) in
    let few = few_before c.loop-sight.yielded rest c.args.sights.items c.in-Some.last i.5 none in
    let may = c.requires.sights.0.1 in
    let left = i.8 in
    let part : 0 < (view_of c.loop-sight.seat).parts = omega arith in
    let teller : Teller = record { sight = c.in-Some.last; seat = c.loop-sight.seat } in
    let new : IsNew (row_id c.args.row.now) (key_of c.args.row.now) (view_of c.args.seat).fronts teller = record {
      on = i.2;
      free = record { idle = i.3; part = part };
      seen = i.4;
      blank = blank_last (key_of c.args.row.now).words.value c.loop-sight.yielded rest c.args.sights.items c.in-Some.last c.requires.sights.1 i.5 none;
    } in
    subst (λ (l : List Teller). AreNew (row_id c.args.row.now) (key_of c.args.row.now) (view_of c.args.seat).fronts l) (sym c.in_ok-push-2.ensures.items)
    (one_teller (row_id c.args.row.now) (key_of c.args.row.now) (view_of c.args.seat).fronts c.loop-sight.all.items teller i.7 new)

pub split-seat-requires-clause-free : goal.split-seat-requires-clause-free
split-seat-requires-clause-free c = grind (arith, common_steps)

pub returns-clause-enough : goal.returns-clause-enough
returns-clause-enough c = grind (arith, common_steps)

pub returns-clause-parts : goal.returns-clause-parts
returns-clause-parts c = grind (arith, common_steps)
