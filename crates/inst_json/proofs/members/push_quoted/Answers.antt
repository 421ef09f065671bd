use Rattle.std.proofs.Common.{[], ◌∷◌, ◌++◌, ap, sym, ◌∙◌, List, ℕ}
use Rattle.std.proofs.lemmas.Result.{on_ok_weaker}
use Rattle.inst_json.proofs.TextsWithoutEscapes.{escape_plain}
use Rattle.inst_json.proofs.ReplyTexts.{one_more}
use Rattle.inst_json.proofs.members.push_quoted.Goals as goal

pub returns : goal.returns
returns c =
    let old : List ℕ = c.args.out.now.items in
    let text = one_more old _ _ c.in_ok-push_text.ensures c.in_ok-push_text-2.ensures in
    let plain = ap (λ (t : List ℕ). old ++ 34 ∷ (t ++ 34 ∷ [])) (sym (escape_plain c.args.text.now c.requires)) in
    on_ok_weaker c.push_text-3.result (λ h. one_more old _ _ text h ∙ plain) c.push_text-3.ensures
