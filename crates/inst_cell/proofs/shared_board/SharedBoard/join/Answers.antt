use Rattle.std.proofs.Common.{rules, ap, sym, ◌∙◌}
use Rattle.inst_cell.specs.declared.view.View.{View}
use Rattle.inst_cell.specs.Held.{settings_of}
use Rattle.inst_cell.proofs.RuleAllowsEachStep.{unites, allows_vouches}
use Rattle.inst_cell.proofs.BoardsAtOpening.{some_words, five_words, first_below}
use Rattle.inst_cell.proofs.TwoBoardsThatMeet.{view_in, vouched_one, none_held, truth_of, joined_both, joined_roles, joined_role}
use Rattle.inst_cell.proofs.shared_board.SharedBoard.join.Goals as goal

pub join_seat-requires : goal.join_seat-requires
join_seat-requires c =
    let b = c.meet.new.self in
    let m = c.meet.ensures.stays in
    (search rules, m.1.table ∙ (c.requires.one.0 ∙ (sym m.0.table ∙ (b.seated ∙ sym (ap (λ t. t.shared.table_id) c.deref.ensures)))), none_held c.meet.new.other.seat.me.1 c.meet.new.other.empty, rw c.deref.ensures (some_words b.participants b.places _ b.some.0 b.some.1 b.sized), unites _ _ _ _ _)

pub load-requires : goal.load-requires
load-requires c =
    let b = c.meet.new.self in
    let e = ap view_in c.join_seat.ensures.2 in (
      search rules,
      rw c.deref.ensures (five_words b.participants b.places _ b.some.0 b.some.1 b.sized),
      rw c.deref.ensures (allows_vouches (settings_of b) _ _ c.join_seat.new.seat.me 0 (first_below (settings_of b) b.participants b.places b.some.0 b.some.1 b.participants_is b.places_is) (ap (λ (v : View). v.places) e ∙ b.based) (ap (λ (v : View). v.margin) e ∙ b.bounded)),
    )

pub invariant_of-self-clause-based : goal.invariant_of-self-clause-based
invariant_of-self-clause-based c =
    let e = ap view_in c.load.ensures.2.1 ∙ ap view_in c.join_seat.ensures.2 in
    ap (λ (v : View). v.places) e ∙ c.meet.new.self.based

pub invariant_of-self-clause-bounded : goal.invariant_of-self-clause-bounded
invariant_of-self-clause-bounded c =
    let e = ap view_in c.load.ensures.2.1 ∙ ap view_in c.join_seat.ensures.2 in
    ap (λ (v : View). v.margin) e ∙ c.meet.new.self.bounded

pub invariant_of-self-clause-one : goal.invariant_of-self-clause-one
invariant_of-self-clause-one c = vouched_one c.join_seat.new.seat.me c.load.new.seat.me c.load.ensures.2.1 c.load.ensures.2.0

pub returns-clause-both : goal.returns-clause-both
returns-clause-both c =
    let m = c.meet.ensures in
    let e = ap view_in c.load.ensures.2.1 ∙ ap view_in c.join_seat.ensures.2 in
    joined_both c.args.self.now c.args.other c.meet.new.self c.meet.new.other c.requires.one m.stays.0 m.stays.1 c.load.new.seat.me.0 e m.mine m.yours

pub returns-clause-truly : goal.returns-clause-truly
returns-clause-truly c =
    let e = ap view_in c.load.ensures.2.1 ∙ ap view_in c.join_seat.ensures.2 in
    truth_of (settings_of c.meet.new.self) c.join_seat.new.seat.me.0 c.load.new.seat.me.0 (ap view_in c.load.ensures.2.1) (ap (λ (v : View). v.margin) e ∙ c.meet.new.self.bounded) c.load.ensures.2.0

pub returns-clause-roles : goal.returns-clause-roles
returns-clause-roles c =
    let m = c.meet.ensures in
    let e = ap view_in c.load.ensures.2.1 ∙ ap view_in c.join_seat.ensures.2 in
    record {
      roles = joined_roles c.args.self.now c.args.other c.meet.new.self c.meet.new.other c.requires.one m.stays.0 m.stays.1 c.load.new.seat.me.0 e;
      role = joined_role c.args.self.now c.args.other c.meet.new.self c.meet.new.other c.requires.one m.stays.0 m.stays.1 c.load.new.seat.me.0 e;
    }
