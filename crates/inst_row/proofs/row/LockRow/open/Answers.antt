use Rattle.std.proofs.Common.{arith, ◌∙◌, ap, ℕ, List, get_or}
use Rattle.inst_row.proofs.Locks.{starts_with, zeros}
use Rattle.inst_row.proofs.row.LockRow.open.Goals as goal

pub new-requires : goal.new-requires
new-requires g c = starts_with g.L.Lawful.law g.L.Lawful.history _ _ _ _ _ (ap (λ v. v.items) c.of-2.ensures)
    (omega (arith, c.in-Some.ensures, c.in_ok-words.ensures.len, c.as_slice.ensures.len))
    (omega (arith, c.in_ok-slots.ensures.len, c.in_ok-words.ensures.len, c.as_slice.ensures.len))
    (λ x. ap (λ (l : List ℕ). get_or l x 0) (c.as_slice.ensures.value ∙ c.in_ok-words.ensures.items_if_clones_equal (λ y e. e)) ∙ zeros c.in-Some.places x)
    c.in_ok-slots.ensures.values
    (λ p below. let v = c.requires.values p below in (v.0, v.1, rw c.of.ensures v.2))
