use Rattle.std.proofs.Common.{◌∙◌, ◌≡◌, ◌++◌, ap, List, ℕ}
use Rattle.std.proofs.lemmas.Result.{on_ok_weaker}
use Rattle.serde_json.specs.Written.{compact_text}
use Rattle.inst_json.specs.Replies.{entry_data}
use Rattle.inst_json.proofs.TextsWithoutEscapes.{escape-code, escape-identifier}
use Rattle.inst_json.proofs.ReplyTexts.{one_more, entry_line, entry_text}
use Rattle.inst_json.proofs.lists.append_entry.Goals as goal

pub returns-clause-text : goal.returns-clause-text
returns-clause-text c =
    let from = c.code_text-from.result.now in
    let id = c.text-id.result.now in
    let line = entry_line c.get-cents.result c.millis-deadline.result from id (escape-code from c.code_text-from.ensures.form) (escape-identifier id c.text-id.ensures.form) in
    let old : List ℕ = c.args.out.now.items in
    let is : old ++ entry_text c.get-cents.result c.millis-deadline.result from id ≡ old ++ compact_text (entry_data c.args.settings.now c.args.entry.now) =
    ap (λ t. old ++ t) (line ∙ cc) in
    let cents = one_more old _ _ c.in_ok-push_text.ensures c.in_ok-push_number.ensures in
    let deadline = one_more old _ _ (one_more old _ _ cents c.in_ok-push_text-2.ensures) c.in_ok-push_number-2.ensures in
    let from_put = one_more old _ _ (one_more old _ _ deadline c.in_ok-push_text-3.ensures) c.in_ok-push_text-4.ensures in
    let id_put = one_more old _ _ (one_more old _ _ from_put c.in_ok-push_text-5.ensures) c.in_ok-push_text-6.ensures in
    on_ok_weaker c.push_text-7.result (λ h. one_more old _ _ id_put h ∙ is) c.push_text-7.ensures
