use Rattle.std.proofs.Common.{◌≡◌, ◌∙◌, sym, subst, true}
use Rattle.inst_settings.specs.Settings.{HubSettings}
use Rattle.inst_json.specs.Replies.{answer_can_be_written}
use Rattle.inst_lines.proofs.AnswersCanBeWritten.{model_written}
use Rattle.inst_loads.proofs.scarce.step_rows.take_step.Goals as goal

pub write_answer-requires : goal.write_answer-requires
write_answer-requires c =
    let same = c.settings.ensures ∙ c.in_ok-answer.ensures.settings in
    subst (λ (s : HubSettings). answer_can_be_written s c.in_ok-answer.answer ≡ true) (sym same)
    (model_written c.args.world.now.board.settings c.args.step.now c.in_ok-answer.answer c.requires c.in_ok-answer.ensures.model)
