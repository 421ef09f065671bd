use Rattle.std.proofs.Common.{length, arith, ap}
use Rattle.std.proofs.lemmas.List.{take_rest}
use Rattle.inst_log.specs.Layout.{blocks}
use Rattle.inst_log.proofs.Pieces.{next_line, no_more_lines}
use Rattle.inst_log.proofs.reading.lines_len.Goals as goal

pub returns-in-None-clause-len : goal.returns-in-None-clause-len
returns-in-None-clause-len c =
    let i = c.loop.invariant in
    omega (arith, i.size, ap (λ ls. length (blocks ls)) (no_more_lines c.args.bytes.now c.loop.rest.now c.loop.counter c.args.count (omega (arith, c.loop.auto.counter-end)) i.left c.in-None.ensures))

pub loop-preserved : goal.loop-preserved
loop-preserved c =
    let i = c.loop.invariant in
    let next = next_line c.args.bytes.now c.loop.rest.now c.loop.counter c.in-Some.len i.left i.size c.in-Some.ensures in
    rw take_rest (record {
      within = omega (arith, next.2);
      enough = next.0;
      left = next.1;
      size = next.2;
    })
