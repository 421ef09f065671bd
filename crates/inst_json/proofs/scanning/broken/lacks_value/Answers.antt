use Rattle.std.proofs.Common.{sym, ap, ◌∙◌}
use Rattle.std.proofs.lemmas.Bool.{not-true}
use Rattle.json.specs.Lex.{fresh, punctuate}
use Rattle.json.specs.Json.{value}
use Rattle.inst_json.proofs.TokensByFirstByte.{lex_broken, lex_end, no_value_left, bad_no_value, no_value_at}
use Rattle.inst_json.proofs.scanning.broken.lacks_value.Goals as goal

pub returns-then-start-text : goal.returns-then-start-text
returns-then-start-text c = λ yes depth.
    let start = c.skip_space-start in
    ap (λ ls. value depth (punctuate fresh ls)) (sym start.ensures.same ∙ lex_end c.args.text.now start.result c.if-start-text.true) ∙ no_value_left depth

pub returns-then-text-start-eq34 : goal.returns-then-text-start-eq34
returns-then-text-start-eq34 c = λ yes depth.
    let start = c.skip_space-start in
    let broken = lex_broken c.args.text.now start.result c.if-start-text.false c.if-text-start-eq34.true (c.breaks_off.ensures yes) in
    ap (λ ls. value depth (punctuate fresh ls)) (sym start.ensures.same ∙ broken) ∙ bad_no_value depth _

pub returns : goal.returns
returns c = λ yes depth.
    let start = c.skip_space-start in
    let no = sym c.begins_value.ensures ∙ not-true _ yes in
    ap (λ ls. value depth (punctuate fresh ls)) (sym start.ensures.same)
    ∙ no_value_at c.args.text.now start.result c.if-start-text.false (start.ensures.stops c.if-start-text.false) no depth
