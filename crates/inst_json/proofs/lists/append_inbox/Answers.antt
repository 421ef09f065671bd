use Rattle.std.proofs.Common.{◌∙◌, arith}
use Rattle.std.proofs.lemmas.Grind.{common_steps}
use Rattle.std.proofs.lemmas.Result.{on_ok_weaker}
use Rattle.inst_json.proofs.ReplyTexts.{inbox_line}
use Rattle.inst_json.proofs.lists.append_inbox.Goals as goal

pub returns-clause-text : goal.returns-clause-text
returns-clause-text c =
    let line = inbox_line c.args.settings.now c.args.entries.now c.args.out.now.items c.loop-index.out.items c.loop-index.index (omega arith) c.loop-index.invariant.rest in
    on_ok_weaker c.push_text-2.result (λ h. h ∙ line) c.push_text-2.ensures

pub loop-index-init : goal.loop-index-init
loop-index-init c = grind (arith, common_steps)

pub append_entry-requires : goal.append_entry-requires
append_entry-requires c = grind (arith, common_steps)

pub returns-clause-words : goal.returns-clause-words
returns-clause-words c = grind (arith, common_steps)
