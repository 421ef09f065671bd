use Rattle.std.proofs.Common.{◌++◌, ap, ◌∙◌, List, ℕ}
use Rattle.std.proofs.lemmas.Result.{on_ok_weaker}
use Rattle.inst_json.proofs.ReplyTexts.{one_more, position_line}
use Rattle.inst_json.proofs.reply.append_position.Goals as goal

pub returns : goal.returns
returns c =
    let old : List ℕ = c.args.out.now.items in
    let available = one_more old _ _ c.in_ok-push_text.ensures c.in_ok-push_number.ensures in
    let position = one_more old _ _ (one_more old _ _ available c.in_ok-push_text-2.ensures) c.in_ok-push_number-2.ensures in
    let reserved = one_more old _ _ (one_more old _ _ position c.in_ok-push_text-3.ensures) c.in_ok-push_number-3.ensures in
    on_ok_weaker c.push_text-4.result (λ h. one_more old _ _ reserved h ∙ ap (λ t. old ++ t) (position_line c.args.position c.args.reserved c.args.available)) c.push_text-4.ensures
