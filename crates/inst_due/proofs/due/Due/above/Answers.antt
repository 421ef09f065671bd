use Rattle.std.proofs.Common.{ℕ, List, not, sym, ◌∙◌, ap, subst, rules}
use Rattle.std.specs.Ordering.{is_le, is_some_and}
use Rattle.std.proofs.lemmas.List.Sorted.{IsPartitionPoint-from_clause}
use Rattle.inst_due.specs.Due.{IsLeast, comes_before}
use Rattle.inst_due.proofs.Pairs.{next_is_least, partitioned, partial_cmp, not_less_by_le, got}
use Rattle.inst_due.proofs.due.Due.above.Goals as goal

pub returns : goal.returns
returns c =
    let pair = c.args.pair in
    let row = c.self.inside.pairs.items in
    let point = IsPartitionPoint-from_clause (λ (other : ℕ × ℕ). is_some_and is_le (partial_cmp other pair)) row c.partition_point-place.result c.partition_point-place.ensures.partitioned (partitioned row pair c.self.invariant) (λ a r f called. search rules) in
    subst (λ (pairs : List (ℕ × ℕ)). IsLeast pairs (comes_before pair) c.copied.result) c.self.view_is
    (subst (IsLeast row (comes_before pair)) (got row c.partition_point-place.result c.get.result c.get.ensures.item ∙ sym c.copied.ensures)
    (next_is_least row pair c.partition_point-place.result c.self.invariant
    (λ k d from under. not_less_by_le _ pair ∙ ap not (point.0 k d from under))
    (λ k d over below. not_less_by_le _ pair ∙ ap not (point.1 k d over below))))
