use Rattle.std.proofs.Common.{◌≡◌, ◌++◌, ◌∷◌, [], ℕ, IsTrue, length, sym, ap, ◌∙◌, subst, arith}
use Rattle.std.specs.Int.{abs_diff}
use Rattle.std.proofs.lemmas.List.{length_push}
use Rattle.inst_base.specs.Cents.{is_amount}
use Rattle.inst_statement.specs.KeptLine.{MoveByAmounts, reached}
use Rattle.inst_statement.specs.KeptStatement.{Stated, position_of, line_with}
use Rattle.inst_statement.proofs.KeptLines.{reached_push, moved_push}
use Rattle.inst_statement.proofs.kept_statement.KeptStatement.add.Goals as goal

pub invariant_of-self : goal.invariant_of-self
invariant_of-self c =
    let i = c.self.inside in
    let position = c.position_after-position.result in
    let kept = line_with c.args.event position c.args.movement.now in
    record {
      moved = subst (MoveByAmounts i.begun) (sym c.push_reserved.ensures.items)
          (moved_push i.begun i.lines.items kept c.self.invariant.moved
          (subst (λ (s : Stated). IsTrue (is_amount (abs_diff position (position_of s)))) (sym c.self.view_is) c.position_after-position.ensures.amount));
      few = omega (arith, ap length c.push_reserved.ensures.items, length_push i.lines.items kept, c.requires.few, ap (λ (s : Stated). length s.lines) c.self.view_is);
    }

pub returns : goal.returns
returns c =
    let i = c.self.inside in
    let position = c.position_after-position.result in
    let m = c.args.movement.now in
    let kept = line_with c.args.event position m in
    let after = c.push_reserved.new.self.items in
    let reached_is : reached i.begun after ≡ position = ap (reached i.begun) c.push_reserved.ensures.items ∙ reached_push i.begun i.lines.items kept in
    record {
      begun = ap (λ (s : Stated). s.begun) c.self.view_is;
      leads = omega (arith, reached_is, c.position_after-position.ensures.leads);
      line = c.push_reserved.ensures.items ∙ ap (λ (s : Stated). s.lines ++ kept ∷ []) c.self.view_is
          ∙ ap (λ (p : ℕ). c.args.self.now.lines ++ line_with c.args.event p m ∷ []) (sym reached_is);
    }
