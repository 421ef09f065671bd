use Rattle.std.proofs.Common.{◌≡◌, true, refl, subst, Result}
use Rattle.std.proofs.lemmas.Result.{IfOk-weaker}
use Rattle.inst_base.specs.Fault.{IsUnlessMemory}
use Rattle.inst_base.specs.declared.fault.Fault.{Fault}
use Rattle.inst_command.specs.Step.{step_fits}
use Rattle.inst_command.specs.declared.step.Step.{Step}
use Rattle.inst_settings.specs.Settings.{HubSettings}
use Rattle.inst_json.specs.Lines.{step_of_line}
use Rattle.inst_lines.specs.Answering.{script_answer, after_script}
use Rattle.inst_lines.specs.declared.mode.Mode.TheVariants.{Play}
use Rattle.inst_lines.proofs.AnswerToHeldLine.{script_answered, read_ok, read_err, refused_read}
use Rattle.inst_lines.proofs.AnswersCanBeWritten.{result_written}
use Rattle.inst_lines.proofs.answer.answer_step.Goals as goal

pub returns-in-Ok : goal.returns-in-Ok
returns-in-Ok c =
    let old = c.args.runner.now in
    let line = c.args.line.now in
    let value : Result Step Fault = step_of_line old.world.board.settings line in
    let read = subst (λ (s : HubSettings). IsUnlessMemory c.read_step.result (step_of_line s line)) c.settings.ensures c.read_step.ensures.value in
    let fits = subst (λ (s : HubSettings). step_fits s c.in-Ok.step ≡ true) c.settings.ensures c.in-Ok.ensures.fits in
    let e = c.step.ensures in
    record {
      ok = script_answered old c.step.new.self c.in-Ok.step value c.step.result (read_ok c.read_step.result value c.in-Ok.step c.in-Ok.is read) e.ok (result_written old.world.board.settings c.in-Ok.step c.step.result fits e.model) e.settings;
    }

pub returns-in-Err : goal.returns-in-Err
returns-in-Err c =
    let old = c.args.runner.now in
    let line = c.args.line.now in
    let value : Result Step Fault = step_of_line old.world.board.settings line in
    let read = subst (λ (s : HubSettings). IsUnlessMemory c.read_step.result (step_of_line s line)) c.settings.ensures c.read_step.ensures.value in
    record {
      ok = IfOk-weaker c.refused.result _ _
          (λ answer e. refused_read Play old c.in-Err.fault value script_answer after_script answer (λ past. refl) (λ past. refl) (read_err c.read_step.result value c.in-Err.fault c.in-Err.is e.1 read) e.0)
          c.refused.ensures.ok;
    }
