use Rattle.std.proofs.Common.{◌++◌, ap, ◌∙◌, List, ℕ}
use Rattle.std.proofs.lemmas.Result.{on_ok_weaker}
use Rattle.serde_json.specs.Written.{compact_text}
use Rattle.inst_json.specs.Replies.{done_data}
use Rattle.inst_json.proofs.TextsWithoutEscapes.{escape-identifier}
use Rattle.inst_json.proofs.ReplyTexts.{one_more, done_line}
use Rattle.inst_json.proofs.reply.append_done.Goals as goal

pub returns : goal.returns
returns c =
    let old : List ℕ = c.args.out.now.items in
    let text = c.text-reference.result.now in
    let line = done_line text (escape-identifier text c.text-reference.ensures.form) in
    let put = one_more old _ _ c.in_ok-push_text.ensures c.in_ok-push_text-2.ensures in
    on_ok_weaker c.push_text-3.result (λ h. one_more old _ _ put h ∙ ap (λ t. old ++ t) (line ∙ ap (λ r. compact_text (done_data r)) c.text-reference.ensures.value)) c.push_text-3.ensures
