use Rattle.std.proofs.Common.{◌-◌, take, drop}
use Rattle.std.proofs.lemmas.List.{take_rest}
use Rattle.inst_chain.proofs.SummaryOfLines.{went_none, went_one}
use Rattle.inst_chain.proofs.summary.Seen.add.Goals as goal

pub loop-len-init : goal.loop-len-init
loop-len-init c = went_none c.args.self.now c.args.bytes.now

pub loop-len-preserved : goal.loop-len-preserved
loop-len-preserved c =
    let line = take (c.in-Some.len - 1) c.loop-len.rest.now in
    rw (take_rest c.loop-len.rest.now c.in-Some.len) (went_one c.args.self.now c.loop-len.self c.add_line.new.self c.args.bytes.now c.loop-len.rest.now (drop c.in-Some.len c.loop-len.rest.now) line
    c.loop-len.invariant c.in-Some.ensures.lines c.in_ok-add_line.ensures)
