use Rattle.std.proofs.Common.{◌≡◌, get_or, sym, ap, ◌∙◌}
use Rattle.std.proofs.lemmas.Bool.{not-true, true≢false, eq-eqb, eqb-true}
use Rattle.json.specs.Lex.{begins_colon, punctuate}
use Rattle.json.specs.Json.{read_key}
use Rattle.inst_json.proofs.TokensAtLinePlaces.{lex_close}
use Rattle.inst_json.proofs.TokensByFirstByte.{lex_broken, lex_end, no_key_left, end_no_key, bad_no_key, no_key_at, no_colon_at, no_key_behind}
use Rattle.inst_json.proofs.scanning.broken.lacks_key.Goals as goal

pub returns-then-start-text : goal.returns-then-start-text
returns-then-start-text c = λ yes p may behind.
    let start = c.skip_space-start in
    ap (λ ls. read_key (punctuate p ls)) (sym start.ensures.same ∙ lex_end c.args.text.now start.result c.if-start-text.true) ∙ no_key_left p may

pub returns-then-from-gt0 : goal.returns-then-from-gt0
returns-then-from-gt0 c = λ yes p may behind.
    let start = c.skip_space-start in
    let end = lex_close c.args.text.now start.result c.if-start-text.false c.if-text-start-eq125.true in
    ap (λ ls. read_key (punctuate p ls)) (sym start.ensures.same ∙ end) ∙ end_no_key p _ (behind (eqb-true _ 44 yes))

pub returns-then-text-start-ne34 : goal.returns-then-text-start-ne34
returns-then-text-start-ne34 c = λ yes p may behind.
    let start = c.skip_space-start in
    ap (λ ls. read_key (punctuate p ls)) (sym start.ensures.same)
    ∙ no_key_at c.args.text.now start.result c.if-start-text.false (start.ensures.stops c.if-start-text.false) p may c.if-text-start-ne34.true c.if-text-start-eq125.false

pub returns-in_default : goal.returns-in_default
returns-in_default c = λ yes p may behind.
    let start = c.skip_space-start in
    let broken = lex_broken c.args.text.now start.result c.if-start-text.false c.if-text-start-ne34.false (c.breaks_off.ensures yes) in
    ap (λ ls. read_key (punctuate p ls)) (sym start.ensures.same ∙ broken) ∙ bad_no_key p _

pub returns-then-at-text : goal.returns-then-at-text
returns-then-at-text c = λ yes p may behind.
    let t = c.args.text.now in
    let start = c.skip_space-start in
    let at = c.skip_space-at in
    let text = c.in-Some.ensures in
    no_key_behind t c.args.from start.result c.in-Some.end at.result c.in-Some.field-0-0.now start.ensures.same c.if-start-text.false c.if-text-start-ne34.false text.value text.rest at.ensures.same
    (ap begins_colon (lex_end t at.result c.if-at-text.true)) p

pub returns-else-at-text : goal.returns-else-at-text
returns-else-at-text c = λ yes p may behind.
    let t = c.args.text.now in
    let start = c.skip_space-start in
    let at = c.skip_space-at in
    let text = c.in-Some.ensures in
    let no_mark = λ (e : get_or t at.result 0 ≡ 58). true≢false (sym (eq-eqb _ 58 e) ∙ not-true _ yes) in
    no_key_behind t c.args.from start.result c.in-Some.end at.result c.in-Some.field-0-0.now start.ensures.same c.if-start-text.false c.if-text-start-ne34.false text.value text.rest at.ensures.same
    (no_colon_at t at.result c.if-at-text.false (at.ensures.stops c.if-at-text.false) no_mark) p
