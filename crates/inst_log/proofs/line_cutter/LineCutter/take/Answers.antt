use Rattle.std.proofs.Common.{rules, ◌≡◌, ◌++◌, List, ℕ, length, take, drop, refl, ◌∙◌, ap}
use Rattle.inst_log.specs.Layout.{recovered_lines, blocks}
use Rattle.inst_log.proofs.Pieces.{front_whole, front_lines, cut_more}
use Rattle.inst_log.proofs.line_cutter.LineCutter.take.Goals as goal

pub returns-clause-whole : goal.returns-clause-whole
returns-clause-whole c =
    let held : c.extend_from_slice.new.self.items ≡ c.args.self.now.held.items ++ c.args.piece.now = search rules in
    let size : c.kept_len.result ≡ length (blocks (recovered_lines (c.args.self.now.held.items ++ c.args.piece.now))) =
    c.kept_len.ensures.len ∙ ap (λ (l : List ℕ). length (blocks (recovered_lines l))) (c.deref.ensures.value ∙ held) in
    let front : c.replace.result.items ≡ take c.kept_len.result (c.args.self.now.held.items ++ c.args.piece.now) = search rules in
    front_whole (c.args.self.now.held.items ++ c.args.piece.now) c.replace.result.items c.kept_len.result size front

pub returns-clause-cut : goal.returns-clause-cut
returns-clause-cut c = λ file done h next within.
    let held : c.extend_from_slice.new.self.items ≡ c.args.self.now.held.items ++ c.args.piece.now = search rules in
    let size : c.kept_len.result ≡ length (blocks (recovered_lines (c.args.self.now.held.items ++ c.args.piece.now))) =
    c.kept_len.ensures.len ∙ ap (λ (l : List ℕ). length (blocks (recovered_lines l))) (c.deref.ensures.value ∙ held) in
    let front : c.replace.result.items ≡ take c.kept_len.result (c.args.self.now.held.items ++ c.args.piece.now) = search rules in
    let rest : c.in_ok-rest.rest.items ≡ drop c.kept_len.result (c.args.self.now.held.items ++ c.args.piece.now) = search rules in
    cut_more file c.args.self.now done h c.args.piece.now next _ c.kept_len.result c.replace.result.items size (search rules) refl within
    (front_lines (c.args.self.now.held.items ++ c.args.piece.now) c.replace.result.items c.kept_len.result size front)
