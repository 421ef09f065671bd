use Rattle.std.proofs.Common.{◌-◌, take, drop, refl}
use Rattle.std.proofs.lemmas.List.{take_rest}
use Rattle.inst_chain.proofs.ProgressOfChecker.{takes_none, takes_one, takes_wrong}
use Rattle.inst_chain.proofs.checker.Checker.check_lines.Goals as goal

pub loop-len-init : goal.loop-len-init
loop-len-init c = takes_none c.args.self.now c.args.bytes.now

pub returns-then-not-check-clause-wrong : goal.returns-then-not-check-clause-wrong
returns-then-not-check-clause-wrong c =
    let line = take (c.in-Some.len - 1) c.loop-len.rest.now in
    takes_wrong c.args.self.now c.loop-len.self c.args.bytes.now c.loop-len.rest.now (drop c.in-Some.len c.loop-len.rest.now) line
    c.loop-len.invariant c.in-Some.ensures.lines (c.if-not-check.ensures.mark refl) (λ before. c.if-not-check.ensures.wrong refl before)

pub loop-len-preserved : goal.loop-len-preserved
loop-len-preserved c =
    let line = take (c.in-Some.len - 1) c.loop-len.rest.now in
    rw (take_rest c.loop-len.rest.now c.in-Some.len) (takes_one c.args.self.now c.loop-len.self c.check.new.self c.args.bytes.now c.loop-len.rest.now (drop c.in-Some.len c.loop-len.rest.now) line
    c.loop-len.invariant c.in-Some.ensures.lines (λ before. c.if-not-check.ensures.right refl before))
