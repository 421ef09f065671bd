use Rattle.std.proofs.Common.{ℕ, List, subst}
use Rattle.std.specs.Io.KnownBytes.{Appends}
use Rattle.inst_options.specs.AnyFault.{any_fault_name}
use Rattle.inst_program.specs.Program.{explanation_text}
use Rattle.inst_program.proofs.tasks.explain.Goals as goal

pub returns-in-Ok-clause-ok : goal.returns-in-Ok-clause-ok
returns-in-Ok-clause-ok g c =
    let meaning = c.meaning.result.now in
    let advice = c.advice.result.now in
    let held = g.W.Write.contents c.args.writer.now in
    let after = g.W.Write.contents c.writeln.new.self in
    let told : Appends held after (explanation_text c.number.result c.name.result.now meaning advice) = c.in-Ok.ensures.bytes in
    let named : Appends held after (explanation_text c.number.result (any_fault_name c.in-Some.fault) meaning advice) =
    subst (λ (name : List ℕ). Appends held after (explanation_text c.number.result name meaning advice)) c.name.ensures told in (
      c.in-Some.fault,
      meaning,
      advice,
      c.in-Some.ensures.named,
      subst (λ (n : ℕ). Appends held after (explanation_text n (any_fault_name c.in-Some.fault) meaning advice)) c.number.ensures named,
    )
