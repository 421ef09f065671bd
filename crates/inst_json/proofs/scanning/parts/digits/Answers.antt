use Rattle.std.proofs.Common.{◌≡◌, ◌+◌, ◌<◌, get_or, arith, ◌∙◌, refl}
use Rattle.inst_json.proofs.TokensAtLinePlaces.{first_digit, next_digit}
use Rattle.inst_json.proofs.scanning.parts.digits.Goals as goal

pub returns-then-value-eq0-clause-value : goal.returns-then-value-eq0-clause-value
returns-then-value-eq0-clause-value c =
    let t = c.args.text.now in
    let v = c.from-value.result in
    let is : get_or t c.args.from 0 ≡ 48 + v = grind arith in
    let small : v < 10 = grind arith in
    first_digit t c.args.from v c.if-from-text.false is small

pub loop-at-init : goal.loop-at-init
loop-at-init c =
    let t = c.args.text.now in
    let v = c.from-value.result in
    let is : get_or t c.args.from 0 ≡ 48 + v = grind arith in
    let small : v < 10 = grind arith in
    record {
      from = omega arith;
      within = omega arith;
      some = omega arith;
      small = omega arith;
      read = first_digit t c.args.from v c.if-from-text.false is small;
    }

pub loop-at-preserved : goal.loop-at-preserved
loop-at-preserved c =
    let t = c.args.text.now in
    let l = c.loop-at in
    let d = c.from.result in
    let is : get_or t l.at 0 ≡ 48 + d = grind arith in
    let less : d < 10 = grind arith in
    record {
      from = omega arith;
      within = omega arith;
      some = omega arith;
      small = omega arith;
      read = l.invariant.read ∙ next_digit t l.at l.value d _ c.loop-at-test.true is less l.invariant.some refl (omega arith);
    }
