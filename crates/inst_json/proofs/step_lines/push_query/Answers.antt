use Rattle.std.proofs.Common.{codes}
use Rattle.std.proofs.lemmas.Result.{on_ok_weaker}
use Rattle.inst_json.specs.StepLines.{named_command}
use Rattle.inst_json.proofs.Tables.{first_of}
use Rattle.inst_json.proofs.step_lines.push_query.Goals as goal

pub returns-in-Position-clause-text : goal.returns-in-Position-clause-text
returns-in-Position-clause-text c =
    rw c.in-Position.is (on_ok_weaker c.push_text_member.result (first_of c.args.out.now.items (named_command (codes "position"))) c.push_text_member.ensures)
