use Rattle.std.proofs.Common.{◌++◌, ◌∷◌, [], ap, ◌∙◌, List, ℕ}
use Rattle.std.proofs.lemmas.Result.{IfOk-weaker}
use Rattle.serde_json.specs.Written.{compact_text}
use Rattle.inst_json.specs.Replies.{answer_data}
use Rattle.inst_base.specs.Newline.{newline}
use Rattle.inst_lines.proofs.AnswerToHeldLine.{answers_line, ok_both}
use Rattle.inst_lines.proofs.answer.answer_part.Goals as goal

pub returns : goal.returns
returns c =
    let answer = c.in_ok-answer.answer in
    let out : List ℕ = c.args.out.now.items in
    record {
      ok = IfOk-weaker c.append_answer.result _ _
          (λ refused ok. answers_line c.args.mode c.args.line.is_long c.args.line.part.now c.args.runner.now c.answer_to.new.runner answer out c.append_answer.new.out.items refused c.in_ok-answer.ensures.ok
          (ok.1 ∙ ap (λ s. out ++ (compact_text (answer_data s answer) ++ newline ∷ [])) c.settings.ensures) ok.0)
          (ok_both c.append_answer.result _ _ c.append_answer.ensures.refusal c.append_answer.ensures.ok);
    }
