use Rattle.std.proofs.Common.{◌++◌, ap₂, ◌∙◌, List, ℕ, codes, decimal}
use Rattle.std.proofs.lemmas.Result.{on_ok_weaker}
use Rattle.inst_json.proofs.ReplyTexts.{one_more}
use Rattle.inst_lines.specs.Check.{field_text}
use Rattle.inst_lines.proofs.check.push_refusal.Goals as goal

pub returns : goal.returns
returns c =
    let old : List ℕ = c.args.out.now.items in
    let same = ap₂ (λ k name. old ++ (((((((codes "line " ++ decimal c.args.number) ++ codes ": fault ") ++ decimal k) ++ codes " ") ++ name) ++ field_text c.args.refusal.field) ++ codes "\n")) (c.from.ensures ∙ c.number.ensures) c.name.ensures in
    let numbered = one_more old _ _ c.in_ok-push_text.ensures c.in_ok-push_number.ensures in
    let fault = one_more old _ _ (one_more old _ _ numbered c.in_ok-push_text-2.ensures) c.in_ok-push_number-2.ensures in
    let named = one_more old _ _ (one_more old _ _ fault c.in_ok-push_text-3.ensures) c.in_ok-push_text-4.ensures in
    let field = one_more old _ _ named c.in_ok-push_field.ensures in
    on_ok_weaker c.push_text-5.result (λ h. one_more old _ _ field h ∙ same) c.push_text-5.ensures
