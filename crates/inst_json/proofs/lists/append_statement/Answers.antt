use Rattle.std.proofs.Common.{◌∙◌, arith}
use Rattle.std.proofs.lemmas.Grind.{common_steps}
use Rattle.std.proofs.lemmas.Result.{on_ok_weaker}
use Rattle.inst_json.proofs.ReplyTexts.{statement_line}
use Rattle.inst_json.proofs.lists.append_statement.Goals as goal

pub returns : goal.returns
returns c =
    let line = statement_line c.args.settings.now c.args.lines.now c.args.out.now.items c.loop-index.out.items c.loop-index.index (omega arith) c.loop-index.invariant.rest in
    on_ok_weaker c.push_text-2.result (λ h. h ∙ line) c.push_text-2.ensures

pub loop-index-init : goal.loop-index-init
loop-index-init c = grind (arith, common_steps)

pub append_line-requires : goal.append_line-requires
append_line-requires c = grind (arith, common_steps)

pub loop-index-preserved : goal.loop-index-preserved
loop-index-preserved c = grind (arith, common_steps)
