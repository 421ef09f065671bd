use Rattle.std.proofs.Common.{◌∙◌, ap, sym, subst, rules}
use Rattle.atomic_table.specs.Table.{Me}
use Rattle.inst_cell.specs.View.{KnowsOne}
use Rattle.inst_cell.specs.declared.view.View.{View}
use Rattle.inst_cell.proofs.BoardsAtOpening.{some_words}
use Rattle.inst_cell.proofs.shared_board.SharedBoard.beside.Goals as goal

pub split_seat-seat-requires : goal.split_seat-seat-requires
split_seat-seat-requires g c =
    let b = c.args.self.now in
    (search rules, rw c.deref.ensures (some_words b.participants b.places _ b.some.0 b.some.1 b.sized), rw c.deref.ensures (c.requires.splits _ _ _))

pub invariant_of-self-2-clause-based : goal.invariant_of-self-2-clause-based
invariant_of-self-2-clause-based g c =
    let b = c.args.self.now in
    ap (λ (m : Me (Unit {0}) View). m.0.places) c.split_seat-seat.ensures.2 ∙ (c.requires.places b.seat.me.0).0 ∙ b.based

pub invariant_of-self-2-clause-bounded : goal.invariant_of-self-2-clause-bounded
invariant_of-self-2-clause-bounded g c =
    let b = c.args.self.now in
    ap (λ (m : Me (Unit {0}) View). m.0.margin) c.split_seat-seat.ensures.2 ∙ (c.requires.margin b.seat.me.0).0 ∙ b.bounded

pub invariant_of-self-2-clause-one : goal.invariant_of-self-2-clause-one
invariant_of-self-2-clause-one g c =
    let b = c.args.self.now in
    subst (λ (m : Me (Unit {0}) View). KnowsOne m.0) (sym c.split_seat-seat.ensures.2) (c.requires.one b.seat.me.0 b.one).0

pub invariant_of-result-clause-based : goal.invariant_of-result-clause-based
invariant_of-result-clause-based g c =
    let b = c.args.self.now in
    ap (λ (m : Me (Unit {0}) View). m.0.places) c.split_seat-seat.ensures.4 ∙ (c.requires.places b.seat.me.0).1 ∙ b.based ∙ ap (λ v. v.shared.key.value.places) (sym c.in_ok-table.ensures)

pub invariant_of-result-clause-bounded : goal.invariant_of-result-clause-bounded
invariant_of-result-clause-bounded g c =
    let b = c.args.self.now in
    ap (λ (m : Me (Unit {0}) View). m.0.margin) c.split_seat-seat.ensures.4 ∙ (c.requires.margin b.seat.me.0).1 ∙ b.bounded ∙ ap (λ v. v.shared.key.value.margin) (sym c.in_ok-table.ensures)

pub invariant_of-result-clause-one : goal.invariant_of-result-clause-one
invariant_of-result-clause-one g c =
    let b = c.args.self.now in
    subst (λ (m : Me (Unit {0}) View). KnowsOne m.0) (sym c.split_seat-seat.ensures.4) (c.requires.one b.seat.me.0 b.one).1
