use Rattle.std.proofs.Common.{arith}
use Rattle.std.proofs.lemmas.Bool.{ltb-true}
use Rattle.std.proofs.lemmas.List.{get_or_past}
use Rattle.inst_json.proofs.TokensByFirstByte.{breaks_off}
use Rattle.inst_json.proofs.scanning.broken.breaks_off.Goals as goal

pub returns-then-end-text : goal.returns-then-end-text
returns-then-end-text c = λ yes.
    let t = c.args.text.now in
    let j = c.plain_end-end.result in
    breaks_off t c.args.from j c.plain_end-end.ensures.value (omega (arith, get_or_past t j 0 c.if-end-text.true))

pub returns-else-end-text : goal.returns-else-end-text
returns-else-end-text c = λ small.
    breaks_off c.args.text.now c.args.from c.plain_end-end.result c.plain_end-end.ensures.value (ltb-true _ 32 small)
