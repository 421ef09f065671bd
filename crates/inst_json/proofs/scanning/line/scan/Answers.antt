use Rattle.std.proofs.Common.{◌≡◌, ◌+◌, ◌-◌, ◌<◌, get_or, true, [], ◌∷◌, length, refl, sym, ap, ◌∙◌, arith, drop, subst}
use Rattle.std.proofs.lemmas.List.{drop_all}
use Rattle.json.specs.Token as tok
use Rattle.json.specs.Lex.{token, colon, lex, between, Place, fresh, after_comma, may_begin, punctuate, tokens}
use Rattle.json.specs.Json.{read_key}
use Rattle.inst_json.specs.LineFields.{fields_in_order}
use Rattle.inst_json.proofs.FieldsOfLineValue.{TellsObject, told_of}
use Rattle.std.proofs.lemmas.Str.Ascii.{IsAscii-nil}
use Rattle.std.specs.Str.{IsAscii}
use Rattle.inst_json.proofs.AsciiFromPlace.{ascii_byte}
use Rattle.inst_json.proofs.TokensAtLinePlaces.{lex_open, lex_comma, lex_close}
use Rattle.inst_json.proofs.OrderedMembers.{Reading, reading_begins, reading_goes_on, reading_ends}
use Rattle.inst_json.proofs.TokensByFirstByte.{lex_end, no_key_left, no_comma_left, no_comma_at, some_lexeme_at}
use Rattle.inst_json.proofs.BrokenMembers.{broken_key, broken_value, broken_behind, broken_end}
use Rattle.inst_json.proofs.scanning.line.scan.Goals as goal

pub loop-at-init : goal.loop-at-init
loop-at-init c =
    let t = c.args.text.now in
    let begin = c.skip_space-open.result in
    let opened = ap (punctuate fresh) (sym c.skip_space-open.ensures.same ∙ lex_open t begin c.if-open-text.false c.if-text-open-ne123.false) in
    let here : begin + 1 - 1 ≡ begin = omega arith in
    let no_comma : get_or t (begin + 1 - 1) 0 ≡ 44 → ⊥ = λ e. omega (arith, e, ap (λ k. get_or t k 0) here, c.if-text-open-ne123.false) in
    record {
      within = omega arith;
      ascii = λ rest. c.skip_space-open.ensures.ascii (ascii_byte t begin 123 c.if-open-text.false c.if-text-open-ne123.false (omega arith) rest);
      reading = reading_begins (tokens t) (lex between (drop (begin + 1) t)) (fields_in_order c.args.found.now) opened c.requires no_comma;
    }

pub loop-at-preserved : goal.loop-at-preserved
loop-at-preserved c =
    let t = c.args.text.now in
    let l = c.loop-at in
    let k = c.in-Some.name.now in
    let v = c.in-Some-scalar.ensures.lexed in
    let stop = c.skip_space-stop.result in
    let is = c.in-Some.ensures.lexed
    ∙ ap (λ ls. token (tok.string k) ∷ colon ∷ ls) (v.4 ∙ ap (λ ls. token v.0 ∷ ls) (sym c.skip_space-stop.ensures.same ∙ lex_comma t stop c.if-stop-text.false c.if-text-stop-eq44.true)) in
    record {
      within = omega arith;
      ascii = λ rest. l.invariant.ascii (c.in-Some.ensures.ascii (c.in-Some-scalar.ensures.ascii (c.skip_space-stop.ensures.ascii (ascii_byte t stop 44 c.if-stop-text.false c.if-text-stop-eq44.true (omega arith) rest))));
      reading = subst (λ fs. Reading (get_or t (stop + 1 - 1) 0 ≡ 44) (tokens t) (lex between (drop (stop + 1) t)) fs) (sym c.put.ensures) (reading_goes_on (tokens t) (lex between (drop l.at t)) (lex between (drop (stop + 1) t)) (fields_in_order l.found) k v.0 v.1 c.in-Some-scalar.field is v.2 refl v.3 l.invariant.reading);
    }

pub returns-then-skip_space-text-clause-value : goal.returns-then-skip_space-text-clause-value
unfolding lex
returns-then-skip_space-text-clause-value c =
    let t = c.args.text.now in
    let l = c.loop-at in
    let k = c.in-Some.name.now in
    let v = c.in-Some-scalar.ensures.lexed in
    let stop = c.skip_space-stop.result in
    let none = sym c.skip_space.ensures.same ∙ ap (lex between) (drop_all c.skip_space.result t (omega arith)) in
    let is = c.in-Some.ensures.lexed
    ∙ ap (λ ls. token (tok.string k) ∷ colon ∷ ls)
    (v.4 ∙ ap (λ ls. token v.0 ∷ ls) (sym c.skip_space-stop.ensures.same ∙ lex_close t stop c.if-stop-text.false c.if-text-stop-eq125.true ∙ ap (λ ls. token tok.end_object ∷ ls) none)) in
    let e = reading_ends (tokens t) (lex between (drop l.at t)) (fields_in_order l.found) k v.0 v.1 c.in-Some-scalar.field is v.2 refl v.3 l.invariant.reading in
    λ yes. (e.0, e.1, told_of c.put.new.self e.0 (subst (λ fs. TellsObject fs e.0) (sym c.put.ensures) e.2))

pub returns-then-skip_space-text-clause-ascii : goal.returns-then-skip_space-text-clause-ascii
returns-then-skip_space-text-clause-ascii c = λ yes.
    let t = c.args.text.now in
    let stop = c.skip_space-stop.result in
    let behind = c.skip_space.ensures.ascii (subst IsAscii (sym (drop_all c.skip_space.result t (omega arith))) IsAscii-nil) in
    c.loop-at.invariant.ascii (c.in-Some.ensures.ascii (c.in-Some-scalar.ensures.ascii (c.skip_space-stop.ensures.ascii (ascii_byte t stop 125 c.if-stop-text.false c.if-text-stop-eq125.true (omega arith) behind))))

pub returns-then-lacks_key-clause-broken : goal.returns-then-lacks_key-clause-broken
returns-then-lacks_key-clause-broken c = λ yes.
    let t = c.args.text.now in
    let l = c.loop-at in
    broken_key (tokens t) (lex between (drop l.at t)) (fields_in_order l.found) (c.lacks_key.ensures c.if-lacks_key.true) l.invariant.reading

pub returns-then-lacks_value-2-clause-broken : goal.returns-then-lacks_value-2-clause-broken
returns-then-lacks_value-2-clause-broken c = λ yes.
    let t = c.args.text.now in
    let l = c.loop-at in
    broken_value (tokens t) (lex between (drop l.at t)) (lex between (drop c.in-Some.value t)) (fields_in_order l.found) c.in-Some.name.now c.in-Some.ensures.lexed
    (c.lacks_value-in_default-scalar.ensures c.if-lacks_value-2.true 126) l.invariant.reading

pub returns-then-stop-text-clause-broken : goal.returns-then-stop-text-clause-broken
returns-then-stop-text-clause-broken c = λ yes.
    let t = c.args.text.now in
    let l = c.loop-at in
    let k = c.in-Some.name.now in
    let v = c.in-Some-scalar.ensures.lexed in
    let stop = c.skip_space-stop in
    let is = c.in-Some.ensures.lexed ∙ ap (λ ls. token (tok.string k) ∷ colon ∷ ls) (v.4 ∙ ap (λ ls. token v.0 ∷ ls) (sym stop.ensures.same ∙ lex_end t stop.result c.if-stop-text.true)) in
    broken_behind (tokens t) (lex between (drop l.at t)) [] (fields_in_order l.found) k v.0 v.1 c.in-Some-scalar.field is v.2 no_comma_left refl v.3 l.invariant.reading

pub returns-else-text-stop-eq58-clause-broken : goal.returns-else-text-stop-eq58-clause-broken
returns-else-text-stop-eq58-clause-broken c = λ yes.
    let t = c.args.text.now in
    let l = c.loop-at in
    let k = c.in-Some.name.now in
    let v = c.in-Some-scalar.ensures.lexed in
    let stop = c.skip_space-stop in
    let is = c.in-Some.ensures.lexed ∙ ap (λ ls. token (tok.string k) ∷ colon ∷ ls) (v.4 ∙ ap (λ ls. token v.0 ∷ ls) (sym stop.ensures.same)) in
    let none = no_comma_at t stop.result c.if-stop-text.false (stop.ensures.stops c.if-stop-text.false) c.if-text-stop-eq125.false c.if-text-stop-eq58.false c.if-text-stop-eq44.false in
    broken_behind (tokens t) (lex between (drop l.at t)) (lex between (drop stop.result t)) (fields_in_order l.found) k v.0 v.1 c.in-Some-scalar.field is v.2 none refl v.3 l.invariant.reading

pub returns-else-skip_space-text-clause-broken : goal.returns-else-skip_space-text-clause-broken
returns-else-skip_space-text-clause-broken c = λ yes.
    let t = c.args.text.now in
    let l = c.loop-at in
    let k = c.in-Some.name.now in
    let v = c.in-Some-scalar.ensures.lexed in
    let stop = c.skip_space-stop.result in
    let behind = c.skip_space in
    let within : behind.result < length t = omega (arith, behind.ensures.within, c.if-skip_space-text.false) in
    let more = some_lexeme_at t behind.result within (behind.ensures.stops within) in
    let is = c.in-Some.ensures.lexed
    ∙ ap (λ ls. token (tok.string k) ∷ colon ∷ ls)
    (v.4 ∙ ap (λ ls. token v.0 ∷ ls) (sym c.skip_space-stop.ensures.same ∙ lex_close t stop c.if-stop-text.false c.if-text-stop-eq125.true ∙ ap (λ ls. token tok.end_object ∷ ls) (sym behind.ensures.same ∙ more.2))) in
    broken_end (tokens t) (lex between (drop l.at t)) more.0 more.1 (fields_in_order l.found) k v.0 v.1 c.in-Some-scalar.field is v.2 refl v.3 l.invariant.reading

pub returns-clause-broken : goal.returns-clause-broken
returns-clause-broken c = λ yes.
    let t = c.args.text.now in
    let l = c.loop-at in
    let none = λ (p : Place) (may : may_begin p ≡ true) (behind : get_or t (l.at - 1) 0 ≡ 44 → p ≡ after_comma). ap (λ ls. read_key (punctuate p ls)) (lex_end t l.at c.loop-at-test.false) ∙ no_key_left p may in
    broken_key (tokens t) (lex between (drop l.at t)) (fields_in_order l.found) none l.invariant.reading
