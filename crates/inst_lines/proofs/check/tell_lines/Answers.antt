use Rattle.std.proofs.Common.{rules, ◌<◌, length}
use Rattle.std.proofs.lemmas.List.{take_rest}
use Rattle.std.proofs.lemmas.Result.{on_ok_weaker}
use Rattle.inst_lines.proofs.RefusedLinesToldSoFar.{told-line, told-last}
use Rattle.inst_lines.proofs.check.tell_lines.Goals as goal

pub loop-len-preserved : goal.loop-len-preserved
loop-len-preserved c =
    let rest = c.loop-len.rest.now in
    rw take_rest (told-line c.args.settings.now c.args.input.now rest c.loop-len.number c.in-Some.len c.args.out.now.items c.loop-len.out.items c.tell_line.new.out.items
    c.loop-len.invariant c.in-Some.ensures c.in_ok-tell_line.ensures)

pub returns : goal.returns
returns c =
    let some : 0 < length c.loop-len.rest.now = search rules in
    on_ok_weaker c.tell_line-2.result (λ h. told-last c.args.settings.now c.args.input.now c.loop-len.rest.now c.loop-len.number c.args.out.now.items c.loop-len.out.items c.tell_line-2.new.out.items
    c.loop-len.invariant c.in_default.ensures some h) c.tell_line-2.ensures
