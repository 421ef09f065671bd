use Rattle.std.proofs.Common.{[], ◌∷◌, ◌++◌, ap₂, ◌∙◌, codes, List, ℕ}
use Rattle.std.proofs.lemmas.Result.{on_ok_weaker}
use Rattle.serde_json.specs.Data.{string}
use Rattle.inst_json.specs.Replies.{whole}
use Rattle.inst_json.specs.StepLines.{command_rows, members_line}
use Rattle.inst_json.proofs.Tables.{one_member, whole_line}
use Rattle.inst_json.proofs.step_lines.append_ask.Goals as goal

pub returns-clause-text : goal.returns-clause-text
returns-clause-text c =
    let old : List ℕ = c.args.out.now.items in
    let at = c.millis-at.result in
    let who = c.code_text-who.result.now in
    let rows = command_rows c.args.settings.now c.args.ask.now.command in
    let rest = one_member c.begin_with_whole.new.out.items rows (codes "who", string who) c.in_ok-push_command.ensures.text c.in_ok-push_text_member.ensures in
    let same = ap₂ (λ n (w : List ℕ). old ++ members_line ((codes "at", whole n) ∷ (rows ++ (codes "who", string w) ∷ []))) c.millis-at.ensures.value c.code_text-who.ensures.value in
    on_ok_weaker c.push_end.result (λ h. whole_line old (codes "at", whole at) (rows ++ (codes "who", string who) ∷ []) c.in_ok-begin_with_whole.ensures rest h ∙ same) c.push_end.ensures
