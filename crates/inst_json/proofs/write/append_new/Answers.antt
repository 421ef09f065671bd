use Rattle.std.proofs.Common.{◌++◌, ap, ◌∙◌, List, ℕ, codes}
use Rattle.std.proofs.lemmas.Result.{on_ok_weaker}
use Rattle.inst_json.proofs.ReplyTexts.{one_more, new_line}
use Rattle.inst_json.proofs.write.append_new.Goals as goal

pub returns : goal.returns
returns c =
    let old : List ℕ = c.args.out.now.items in
    let put = one_more old _ _ c.in_ok-push_text.ensures c.in_ok-push_text-2.ensures in
    let same = ap (λ b. (codes "{\"new\":" ++ b) ++ codes ",\"reply\":\"step\"}") c.bool_name.ensures in
    on_ok_weaker c.push_text-3.result (λ h. one_more old _ _ put h ∙ ap (λ t. old ++ t) (same ∙ new_line c.args.new)) c.push_text-3.ensures
