use Rattle.std.proofs.Common.{[], ◌∷◌, ◌++◌, ap, ap₂, ◌∙◌, codes, List, ℕ}
use Rattle.std.proofs.lemmas.Result.{on_ok_weaker}
use Rattle.serde_json.specs.Data.{string}
use Rattle.inst_json.specs.Replies.{whole}
use Rattle.inst_json.specs.StepLines.{named_step, members_line}
use Rattle.inst_json.proofs.Tables.{four_line}
use Rattle.inst_json.proofs.step_lines.append_passing.Goals as goal

pub returns-clause-text : goal.returns-clause-text
returns-clause-text c =
    let old : List ℕ = c.args.out.now.items in
    let from = c.code_text-from.result.now in
    let who = c.code_text-who.result.now in
    let step = c.args.name.now in
    let line : ℕ → List ℕ → List ℕ → List ℕ = λ place f w. members_line ((codes "from", string f) ∷ (codes "place", whole place) ∷ named_step step ∷ (codes "who", string w) ∷ []) in
    let same = ap (λ n. old ++ line n from who) c.from.ensures ∙ ap₂ (λ (f w : List ℕ). old ++ line c.args.passing.index f w) c.code_text-from.ensures.value c.code_text-who.ensures.value in
    on_ok_weaker c.push_end.result
    (λ h. four_line old (codes "from", string from) (codes "place", whole c.from.result) (named_step step) (codes "who", string who)
    c.in_ok-begin_with_text.ensures c.in_ok-push_whole_member.ensures c.in_ok-push_text_member.ensures c.in_ok-push_text_member-2.ensures h ∙ same) c.push_end.ensures
