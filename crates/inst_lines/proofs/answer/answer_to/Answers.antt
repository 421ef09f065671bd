use Rattle.std.proofs.Common.{◌≡◌, false, nat_lt, length, sym, ◌∙◌, ltb-false}
use Rattle.std.proofs.lemmas.Bool.{or_parts}
use Rattle.std.proofs.lemmas.Result.{IfOk-weaker}
use Rattle.inst_lines.specs.Limits.{most_line_bytes}
use Rattle.inst_lines.proofs.AnswerToHeldLine.{command_whole, script_whole}
use Rattle.inst_lines.proofs.answer.answer_to.Goals as goal

pub returns-in-Run : goal.returns-in-Run
returns-in-Run c =
    let parts : (c.args.line.is_long ≡ false) × (nat_lt most_line_bytes (length c.args.line.part.now) ≡ false) =
    or_parts c.args.line.is_long (nat_lt most_line_bytes (length c.args.line.part.now)) (sym c.is_too_long.ensures ∙ c.if-is_too_long.false) in
    record {
      ok = rw (parts.0, c.in-Run.is)
          (IfOk-weaker c.answer_command.result _ _
          (λ answer read. command_whole c.args.runner.now c.answer_command.new.runner c.args.line.part.now answer (ltb-false most_line_bytes (length c.args.line.part.now) parts.1) read)
          c.answer_command.ensures.ok);
    }

pub returns-in-Play : goal.returns-in-Play
returns-in-Play c =
    let parts : (c.args.line.is_long ≡ false) × (nat_lt most_line_bytes (length c.args.line.part.now) ≡ false) =
    or_parts c.args.line.is_long (nat_lt most_line_bytes (length c.args.line.part.now)) (sym c.is_too_long.ensures ∙ c.if-is_too_long.false) in
    record {
      ok = rw (parts.0, c.in-Play.is)
          (IfOk-weaker c.answer_step.result _ _
          (λ answer read. script_whole c.args.runner.now c.answer_step.new.runner c.args.line.part.now answer (ltb-false most_line_bytes (length c.args.line.part.now) parts.1) read)
          c.answer_step.ensures.ok);
    }
