use Rattle.std.proofs.Common.{◌++◌, ap, ◌∙◌, List, ℕ}
use Rattle.std.proofs.lemmas.Result.{on_ok_weaker}
use Rattle.serde_json.specs.Written.{compact_text}
use Rattle.inst_json.specs.Replies.{taken_data}
use Rattle.inst_json.proofs.TextsWithoutEscapes.{escape-identifier}
use Rattle.inst_json.proofs.ReplyTexts.{one_more, taken_line}
use Rattle.inst_json.proofs.reply.append_taken.Goals as goal

pub returns : goal.returns
returns c =
    let old : List ℕ = c.args.out.now.items in
    let id = c.text-id.result.now in
    let line = taken_line id c.args.deadline (escape-identifier id c.text-id.ensures.form) in
    let deadline = one_more old _ _ c.in_ok-push_text.ensures c.in_ok-push_number.ensures in
    let id_put = one_more old _ _ (one_more old _ _ deadline c.in_ok-push_text-2.ensures) c.in_ok-push_text-3.ensures in
    on_ok_weaker c.push_text-4.result (λ h. one_more old _ _ id_put h ∙ ap (λ t. old ++ t) (line ∙ ap (λ i. compact_text (taken_data i c.args.deadline)) c.text-id.ensures.value)) c.push_text-4.ensures
