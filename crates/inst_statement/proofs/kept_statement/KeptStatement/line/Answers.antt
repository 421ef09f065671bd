use Rattle.std.proofs.Common.{◌≡◌, ◌+◌, ◌<◌, ℕ, Some, length, take, IsTrue, sym, ap, ◌∙◌, subst, arith}
use Rattle.std.specs.Int.{abs_diff}
use Rattle.std.specs.List.{slice_get}
use Rattle.inst_base.specs.Cents.{is_amount}
use Rattle.inst_statement.specs.KeptLine.{line_at, reached}
use Rattle.inst_statement.specs.KeptStatement.{Stated, lines_of_statement}
use Rattle.inst_statement.proofs.KeptLines.{moved_at, line_there}
use Rattle.inst_statement.proofs.kept_statement.KeptStatement.line.Goals as goal

pub line-requires-clause-amount : goal.line-requires-clause-amount
line-requires-clause-amount c =
    let i = c.self.inside in
    let below : c.args.index < length i.lines.items = omega (arith, ap (λ (s : Stated). length s.lines) c.self.view_is) in
    subst (λ (n : ℕ). IsTrue (is_amount (abs_diff c.index.result.now.position n)))
    (ap (λ (s : Stated). reached s.begun (take c.args.index s.lines)) c.self.view_is ∙ sym c.position_before.ensures)
    (moved_at i.begun i.lines.items c.args.index c.index.result.now below c.index.ensures c.self.invariant.moved)

pub returns : goal.returns
returns c =
    let i = c.self.inside in
    let J = c.args.events.now in
    let kept = c.index.result.now in
    let below : c.args.index < length i.lines.items = omega (arith, ap (λ (s : Stated). length s.lines) c.self.view_is) in
    let number : 1 + c.args.index ≡ c.args.index + 1 = omega arith in
    sym (ap (λ (s : Stated). slice_get (lines_of_statement J s) c.args.index) c.self.view_is)
    ∙ line_there J 1 i.begun i.lines.items c.args.index kept below c.index.ensures
    ∙ ap (λ n. Some (line_at J n (reached i.begun (take c.args.index i.lines.items)) kept)) number
    ∙ ap (λ before. Some (line_at J (c.args.index + 1) before kept)) (ap (λ (s : Stated). reached s.begun (take c.args.index s.lines)) c.self.view_is ∙ sym c.position_before.ensures)
    ∙ ap (λ l. Some l) (sym c.line.ensures)
