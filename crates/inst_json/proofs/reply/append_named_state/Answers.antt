use Rattle.std.proofs.Common.{◌++◌, ap, ◌∙◌, List, ℕ}
use Rattle.std.proofs.lemmas.Result.{on_ok_weaker}
use Rattle.serde_json.specs.Written.{compact_text}
use Rattle.inst_json.specs.Replies.{state_data}
use Rattle.inst_json.proofs.TextsWithoutEscapes.{escape-code, escape-identifier, escape-state_name}
use Rattle.inst_json.proofs.ReplyTexts.{one_more, state_line}
use Rattle.inst_json.proofs.reply.append_named_state.Goals as goal

pub returns : goal.returns
returns c =
    let old : List ℕ = c.args.out.now.items in
    let from = c.args.from.now in
    let id = c.text-id.result.now in
    let name = c.args.name.now in
    let line = state_line from id name (escape-code from c.requires.from_form) (escape-identifier id c.text-id.ensures.form) (escape-state_name name c.requires.name_form) in
    let from_put = one_more old _ _ c.in_ok-push_text.ensures c.in_ok-push_text-2.ensures in
    let id_put = one_more old _ _ (one_more old _ _ from_put c.in_ok-push_text-3.ensures) c.in_ok-push_text-4.ensures in
    let name_put = one_more old _ _ (one_more old _ _ id_put c.in_ok-push_text-5.ensures) c.in_ok-push_text-6.ensures in
    on_ok_weaker c.push_text-7.result (λ h. one_more old _ _ name_put h ∙ ap (λ t. old ++ t) (line ∙ ap (λ i. compact_text (state_data from i name)) c.text-id.ensures.value)) c.push_text-7.ensures
