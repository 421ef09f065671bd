use Rattle.std.proofs.Common.{rules, ◌≡◌, ◌∷◌, sym, ◌∙◌}
use Rattle.std.specs.Vec.Iter.{into_iter_items}
use Rattle.inst_desk.proofs.Hands.{first_of, rest_of, gathers_first, gathers_next, none_left, gathers_all}
use Rattle.inst_desk.proofs.desk.Desk.gather.Goals as goal

pub loop-hand-init : goal.loop-hand-init
loop-hand-init c =
    let is : c.args.hands.items ≡ c.in-Some.first ∷ into_iter_items c.into_iter-hand-iterator.result = search rules in
    (tt, tt, (first_of _ _ _ _ c.requires.of is).on, rest_of _ _ _ _ c.requires.of is, gathers_first _ _ _ is)

pub join-whole-requires : goal.join-whole-requires
join-whole-requires c = let i = c.loop-hand.invariant in (i.2, (first_of _ _ _ _ i.3 c.in-Some-hand.ensures.steps.0).on)

pub loop-hand-preserved : goal.loop-hand-preserved
loop-hand-preserved c =
    let i = c.loop-hand.invariant in let is = c.in-Some-hand.ensures.steps.0 in
    (tt, tt, c.join-whole.ensures.on, rest_of _ _ _ _ i.3 is, gathers_next _ _ _ _ _ _ i.4 is c.join-whole.ensures.both)

pub returns : goal.returns
returns c =
    let i = c.loop-hand.invariant in
    let none = none_left _ (sym c.loop-hand.hand-iterator.rest.ok.0 ∙ c.in-None.ensures.steps.0) in
    record { on = i.2; all = gathers_all _ _ _ i.4 none c.requires.all }
