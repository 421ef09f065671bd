use Rattle.std.proofs.Common.{◌++◌, ap, ap₂, ◌∙◌, List, ℕ}
use Rattle.std.proofs.lemmas.Result.{on_ok_weaker}
use Rattle.serde_json.specs.Written.{compact_text}
use Rattle.inst_json.specs.Replies.{rejected_data}
use Rattle.inst_json.proofs.TextsWithoutEscapes.{escape-code, escape-identifier, escape-reason}
use Rattle.inst_json.proofs.ReplyTexts.{one_more, rejected_line}
use Rattle.inst_json.proofs.reply.append_rejected.Goals as goal

pub returns : goal.returns
returns c =
    let old : List ℕ = c.args.out.now.items in
    let from = c.args.from.now in
    let id = c.text-id.result.now in
    let reason = c.text-reason.result.now in
    let line = rejected_line from id reason (escape-code from c.requires) (escape-identifier id c.text-id.ensures.form) (escape-reason reason c.text-reason.ensures.form) in
    let same = ap₂ (λ i r. compact_text (rejected_data from i r)) c.text-id.ensures.value c.text-reason.ensures.value in
    let from_put = one_more old _ _ c.in_ok-push_text.ensures c.in_ok-push_text-2.ensures in
    let id_put = one_more old _ _ (one_more old _ _ from_put c.in_ok-push_text-3.ensures) c.in_ok-push_text-4.ensures in
    let reason_put = one_more old _ _ (one_more old _ _ id_put c.in_ok-push_text-5.ensures) c.in_ok-push_text-6.ensures in
    on_ok_weaker c.push_text-7.result (λ h. one_more old _ _ reason_put h ∙ ap (λ t. old ++ t) (line ∙ same)) c.push_text-7.ensures
