use Rattle.std.proofs.Common.{◌++◌, ap, ap₂, ◌∙◌, List, ℕ, codes, decimal}
use Rattle.std.proofs.lemmas.Result.{on_ok_weaker}
use Rattle.inst_json.proofs.ReplyTexts.{one_more, refused_line}
use Rattle.inst_json.proofs.reply.append_refused.Goals as goal

pub returns : goal.returns
returns c =
    let old : List ℕ = c.args.out.now.items in
    let same = ap₂ (λ n k. old ++ ((((codes "{\"fault\":\"" ++ n) ++ codes "\",\"number\":") ++ decimal k) ++ codes ",\"reply\":\"refused\"}")) c.name.ensures (c.from.ensures ∙ c.number.ensures) in
    let name = one_more old _ _ c.in_ok-push_text.ensures c.in_ok-push_text-2.ensures in
    let number = one_more old _ _ (one_more old _ _ name c.in_ok-push_text-3.ensures) c.in_ok-push_number.ensures in
    on_ok_weaker c.push_text-4.result (λ h. one_more old _ _ number h ∙ same ∙ ap (λ t. old ++ t) (refused_line c.args.fault)) c.push_text-4.ensures
