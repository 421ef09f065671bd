use Rattle.std.proofs.Common.{◌∙◌, ◌+◌, ap, sym, drop, arith}
use Rattle.std.proofs.lemmas.Grind.{common_steps}
use Rattle.std.proofs.lemmas.List.{at_drop_more}
use Rattle.clap.specs.Words.{App, app_of, with_subcommand}
use Rattle.inst_options.specs.inner.Table.{with_rows}
use Rattle.inst_options.proofs.command_line.command_line.Goals as goal

-- one row more
pub loop-row-preserved : goal.loop-row-preserved
loop-row-preserved c =
    let at = c.loop-row in
    let rows = c.subcommands-row-items.result.now in
    let sub = c.in_ok-subcommand.ensures in
    let with_one = c.in_ok-program.ensures.shape sub.local
    ∙ ap (λ (a : App). with_subcommand (app_of at.program) a.top) sub.shape in
    ap (λ (a : App). with_rows a (drop (at.row-index + 1) rows)) with_one
    ∙ sym (at_drop_more (with_rows (app_of at.program)) rows at.row-index _ c.loop-row-test.true)
    ∙ at.invariant

pub returns : goal.returns
returns c = grind (arith, common_steps)
