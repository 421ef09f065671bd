use Rattle.std.proofs.Common.{◌≡◌, ◌+◌, ◌-◌, ◌≤◌, ℕ, List, [], IfOk, length, length-drop, min, take, drop, sym, ap, ◌∙◌, subst, arith}
use Rattle.std.specs.List.{slice_range}
use Rattle.std.proofs.lemmas.List.{drop_all, take_all, take_min}
use Rattle.inst_command.specs.declared.line.Line.{Line}
use Rattle.inst_statement.specs.KeptStatement.{Stated, lines_of_statement}
use Rattle.inst_statement.proofs.KeptLines.{lines_length}
use Rattle.inst_statement.proofs.kept_statement.KeptStatement.part.Goals as goal

-- no lines past the last one
none_past : (all : List Line) (skip count : ℕ) → length all ≤ skip → take count (drop skip all) ≡ []
none_past all skip count past = ap (take count) (drop_all skip all past) ∙ take_all count [] (omega arith)

-- no more lines than there are
as_many : (all : List Line) (skip count n : ℕ) → n ≡ min (length all - skip) count → slice_range all skip (skip + n) ≡ take count (drop skip all)
as_many all skip count n is =
    let same : skip + n - skip ≡ min count (length (drop skip all)) = omega (arith, is, length-drop skip all) in
    ap (λ m. take m (drop skip all)) same ∙ take_min count (drop skip all)

pub returns-then-skip-kept : goal.returns-then-skip-kept
returns-then-skip-kept c =
    let s = c.args.self.now in
    let all = lines_of_statement c.args.events.now s in
    let past : length all ≤ c.args.skip = omega (arith, lines_length c.args.events.now 1 s.begun s.lines, c.len-kept.ensures, c.self.inside.lines.ok.0, ap (λ (t : Stated). length t.lines) c.self.view_is) in
    record { ok = c.new.ensures.items ∙ sym (none_past all c.args.skip c.args.count past) }

pub returns : goal.returns
returns c =
    let s = c.args.self.now in
    let all = lines_of_statement c.args.events.now s in
    let many : c.min.result ≡ min (length all - c.args.skip) c.args.count =
    omega (arith, c.min.ensures, lines_length c.args.events.now 1 s.begun s.lines, c.len-kept.ensures, c.self.inside.lines.ok.0, ap (λ (t : Stated). length t.lines) c.self.view_is) in
    record { ok = subst (λ (L : List Line). IfOk c.lines.result (λ lines. lines.items ≡ L)) (as_many all c.args.skip c.args.count c.min.result many) c.lines.ensures.ok }
