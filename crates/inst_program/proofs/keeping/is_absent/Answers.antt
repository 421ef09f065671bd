use Rattle.std.proofs.Common.{ℕ, ◌==◌, ap, ◌∙◌}
use Rattle.inst_program.proofs.FirstLine.{absent_if_empty}
use Rattle.inst_program.proofs.keeping.is_absent.Goals as goal

pub returns-clause-absent : goal.returns-clause-absent
returns-clause-absent g c clean =
    absent_if_empty c.args.must_be_there _ c.in_ok-first.first.items c.is_empty.result c.if-not-must_be_there.false (c.in_ok-first.ensures.lines clean) (c.is_empty.ensures ∙ ap (λ (n : ℕ). n == 0) c.in_ok-first.first.ok.0)
