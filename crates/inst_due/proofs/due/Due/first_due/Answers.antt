use Rattle.std.proofs.Common.{◌≡◌, ℕ, List, Some, subst, rules}
use Rattle.std.specs.Bool.{then_some}
use Rattle.inst_base.specs.TimeLimit.{is_due}
use Rattle.inst_due.specs.Due.{IsLeast}
use Rattle.inst_due.proofs.Pairs.{got, first_if_due}
use Rattle.inst_due.proofs.due.Due.first_due.Goals as goal

pub returns : goal.returns
returns c =
    let pairs = c.self.inside.pairs.items in
    let first = c.in_ok-first.field-0 in
    let given : then_some (is_due first.now.0 c.args.at) first.now ≡ c.then_some.result = search rules in
    subst (λ (l : List (ℕ × ℕ)). IsLeast l (λ pair. is_due pair.0 c.args.at) c.then_some.result) c.self.view_is
    (subst (IsLeast pairs (λ pair. is_due pair.0 c.args.at)) given
    (first_if_due pairs first.now c.args.at c.self.invariant (got pairs 0 (Some first) c.in_ok-first.ensures.item)))
