use Rattle.std.proofs.Common.{◌+◌, ◌-◌, refl, arith, get_or}
use Rattle.inst_terms.specs.Identifier.{sum_below}
use Rattle.inst_terms.proofs.Base128.{eight_below, next_character}
use Rattle.inst_terms.proofs.identifier.nine_from.Goals as goal

pub loop-place-init : goal.loop-place-init
unfolding sum_below
loop-place-init c = refl

pub overflow_mul-word : goal.overflow_mul-word
overflow_mul-word c =
    let below = eight_below (9 - c.loop-place.place) (λ j. get_or c.args.characters.now (c.args.start + c.loop-place.place + j) 0) (omega arith) (λ j. c.requires.ascii (c.args.start + c.loop-place.place + j)) in
    omega arith

pub overflow_add-word : goal.overflow_add-word
overflow_add-word c =
    let below = eight_below (9 - c.loop-place.place) (λ j. get_or c.args.characters.now (c.args.start + c.loop-place.place + j) 0) (omega arith) (λ j. c.requires.ascii (c.args.start + c.loop-place.place + j)) in
    omega arith

pub loop-place-preserved : goal.loop-place-preserved
loop-place-preserved c =
    let more = next_character c.args.characters.now c.args.start (c.loop-place.place - 1) c.loop-place.place (omega arith) (omega arith) in
    let before = c.loop-place.invariant in
    omega arith
