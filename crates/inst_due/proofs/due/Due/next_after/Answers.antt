use Rattle.std.proofs.Common.{Some, true, refl, subst}
use Rattle.inst_due.specs.Due.{IsFirst}
use Rattle.inst_due.proofs.Pairs.{got, first_of_all}
use Rattle.inst_due.proofs.due.Due.next_after.Goals as goal

pub returns-in_ok-front-in-None : goal.returns-in_ok-front-in-None
returns-in_ok-front-in-None c =
    let pairs = c.self.inside.pairs.items in
    let first = c.in_ok-front-in-None.field-0 in
    rw c.in-None.is (subst (λ pairs. IsFirst pairs (λ pair. true) first.now) c.self.view_is
    (first_of_all pairs first.now (λ pair. true) c.self.invariant (got pairs 0 (Some first) c.in_ok-front-in-None.ensures.item) refl))
