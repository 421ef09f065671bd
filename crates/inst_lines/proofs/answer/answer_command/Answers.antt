use Rattle.std.proofs.Common.{◌≡◌, true, refl, ap, subst, Result, IfOk}
use Rattle.std.proofs.lemmas.Result.{IfOk-weaker}
use Rattle.inst_base.specs.Fault.{IsUnlessMemory}
use Rattle.inst_base.specs.declared.fault.Fault.{Fault}
use Rattle.inst_command.specs.Ask.{ask_fits}
use Rattle.inst_command.specs.declared.ask.Ask.{Ask}
use Rattle.inst_command.specs.declared.step.Step.TheVariants.{Ask as AskStep}
use Rattle.inst_settings.specs.Settings.{HubSettings}
use Rattle.inst_json.specs.declared.refusal.Refusal.{Refusal}
use Rattle.inst_json.specs.Refusals.{by_fault}
use Rattle.inst_json.specs.Lines.{command_of_line}
use Rattle.inst_lines.specs.Answering.{command_answer, after_command}
use Rattle.inst_lines.specs.declared.mode.Mode.TheVariants.{Run}
use Rattle.inst_lines.proofs.AnswerToHeldLine.{command_read, read_ok, read_err, read_blamed, refused_read}
use Rattle.inst_lines.proofs.AnswersCanBeWritten.{model_written}
use Rattle.inst_lines.proofs.answer.answer_command.Goals as goal

pub returns-in_ok-follow_up-in-Ok : goal.returns-in_ok-follow_up-in-Ok
returns-in_ok-follow_up-in-Ok c =
    let old = c.args.runner.now in
    let line = c.args.line.now in
    let value : Result Ask Fault = command_of_line old.world.board.settings line in
    let read = subst (λ (s : HubSettings). IsUnlessMemory (by_fault c.read_blamed_command.result) (command_of_line s line)) c.settings.ensures
    (read_blamed _ line c.read_blamed_command.result c.read_blamed_command.ensures.value) in
    let fits = subst (λ (s : HubSettings). ask_fits s c.in-Ok.ask ≡ true) c.settings.ensures
    (subst (λ (r : Result Ask Refusal). IfOk r (λ ask. ask_fits c.settings.result.now ask ≡ true)) c.in-Ok.is c.read_blamed_command.ensures.fits) in
    let e = c.in_ok-answer-in-Ok.ensures in
    record {
      ok = command_read old c.ask.new.self c.follow_up.new.runner c.in-Ok.ask value c.in_ok-answer-in-Ok.answer (read_ok (by_fault c.read_blamed_command.result) value c.in-Ok.ask (ap by_fault c.in-Ok.is) read)
          e.ok c.ask.ensures.settings c.in_ok-follow_up-in-Ok.ensures.ok c.follow_up.ensures.settings (model_written old.world.board.settings (AskStep c.in-Ok.ask) c.in_ok-answer-in-Ok.answer fits e.model);
    }

pub returns-in-Err : goal.returns-in-Err
returns-in-Err c =
    let old = c.args.runner.now in
    let line = c.args.line.now in
    let value : Result Ask Fault = command_of_line old.world.board.settings line in
    let read = subst (λ (s : HubSettings). IsUnlessMemory (by_fault c.read_blamed_command.result) (command_of_line s line)) c.settings.ensures
    (read_blamed _ line c.read_blamed_command.result c.read_blamed_command.ensures.value) in
    record {
      ok = IfOk-weaker c.refused.result _ _
          (λ answer e. refused_read Run old c.in-Err.refusal.fault value command_answer after_command answer (λ past. refl) (λ past. refl) (read_err (by_fault c.read_blamed_command.result) value c.in-Err.refusal.fault (ap by_fault c.in-Err.is) e.1 read) e.0)
          c.refused.ensures.ok;
    }
