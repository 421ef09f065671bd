use Rattle.std.proofs.Common.{◌≡◌, ◌+◌, ◌-◌, ◌<◌, length, take, sym, ap, ◌∙◌, arith}
use Rattle.inst_statement.specs.KeptLine.{reached}
use Rattle.inst_statement.specs.KeptStatement.{Stated}
use Rattle.inst_statement.proofs.KeptLines.{reached_at}
use Rattle.inst_statement.proofs.kept_statement.KeptStatement.position_before.Goals as goal

pub returns : goal.returns
returns c =
    let i = c.self.inside in
    let below : c.args.index - 1 < length i.lines.items = omega (arith, ap (λ (s : Stated). length s.lines) c.self.view_is) in
    let at : c.args.index - 1 + 1 ≡ c.args.index = omega arith in
    sym (reached_at i.begun i.lines.items (c.args.index - 1) c.index.result.now below c.index.ensures)
    ∙ ap (λ n. reached i.begun (take n i.lines.items)) at ∙ ap (λ (s : Stated). reached s.begun (take c.args.index s.lines)) c.self.view_is
