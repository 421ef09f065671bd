use Rattle.std.proofs.Common.{rules, ap, refl, ◌∙◌}
use Rattle.inst_cell.specs.Held.{settings_of, view_of}
use Rattle.inst_cell.proofs.TwoBoardsThatMeet.{view_in, one_told, vouched_one, both_of, told_both, told_places, told_margin, vouches_for, truth_of}
use Rattle.inst_cell.proofs.BoardsAtOpening.{some_words, five_words, first_below}
use Rattle.inst_cell.proofs.RuleAllowsEachStep.{tells, unites, allows_vouches}
use Rattle.inst_cell.proofs.shared_board.SharedBoard.inform.Goals as goal

pub split_seat-copy-requires : goal.split_seat-copy-requires
split_seat-copy-requires c = let b = c.args.self.now in (search rules, rw c.deref.ensures (some_words b.participants b.places _ b.some.0 b.some.1 b.sized), tells _ _ _)

pub join_seat-requires : goal.join_seat-requires
join_seat-requires c = let b = c.args.self.now in (search rules, search rules, search rules, rw c.deref.ensures (some_words b.participants b.places _ b.some.0 b.some.1 b.sized), unites _ _ _ _ _)

pub load-requires : goal.load-requires
load-requires c =
    let b = c.args.other.now in
    let v = view_of c.args.self.now in
    let e = one_told v (view_of b) c.split_seat-copy.result.me c.join_seat.new.seat.me c.split_seat-copy.ensures.4 _ c.join_seat.ensures.2 in (
      search rules,
      rw c.deref-2.ensures (five_words b.participants b.places _ b.some.0 b.some.1 b.sized),
      rw c.deref-2.ensures (allows_vouches (settings_of b) _ _ c.join_seat.new.seat.me 0 (first_below (settings_of b) b.participants b.places b.some.0 b.some.1 b.participants_is b.places_is) (told_places v (view_of b) _ e ∙ b.based) (told_margin v (view_of b) _ e ∙ b.bounded)),
    )

pub invariant_of-other-clause-based : goal.invariant_of-other-clause-based
invariant_of-other-clause-based c =
    let v = view_of c.args.self.now in let w = view_of c.args.other.now in
    let e = ap view_in c.load.ensures.2.1 ∙ one_told v w c.split_seat-copy.result.me c.join_seat.new.seat.me c.split_seat-copy.ensures.4 _ c.join_seat.ensures.2 in
    told_places v w c.load.new.seat.me.0 e ∙ c.args.other.now.based

pub invariant_of-other-clause-bounded : goal.invariant_of-other-clause-bounded
invariant_of-other-clause-bounded c =
    let v = view_of c.args.self.now in let w = view_of c.args.other.now in
    let e = ap view_in c.load.ensures.2.1 ∙ one_told v w c.split_seat-copy.result.me c.join_seat.new.seat.me c.split_seat-copy.ensures.4 _ c.join_seat.ensures.2 in
    told_margin v w c.load.new.seat.me.0 e ∙ c.args.other.now.bounded

pub invariant_of-other-clause-one : goal.invariant_of-other-clause-one
invariant_of-other-clause-one c = vouched_one c.join_seat.new.seat.me c.load.new.seat.me c.load.ensures.2.1 c.load.ensures.2.0

pub returns-clause-yours : goal.returns-clause-yours
returns-clause-yours c =
    let v = view_of c.args.self.now in let w = view_of c.args.other.now in
    let e = ap view_in c.load.ensures.2.1 ∙ one_told v w c.split_seat-copy.result.me c.join_seat.new.seat.me c.split_seat-copy.ensures.4 _ c.join_seat.ensures.2 in
    both_of c.args.self.now c.args.other.now (settings_of c.args.other.now) c.load.new.seat.me.0 c.requires.one refl (told_both v w c.load.new.seat.me.0 e)

pub returns-clause-truly : goal.returns-clause-truly
returns-clause-truly c =
    let v = view_of c.args.self.now in let w = view_of c.args.other.now in
    let e = ap view_in c.load.ensures.2.1 ∙ one_told v w c.split_seat-copy.result.me c.join_seat.new.seat.me c.split_seat-copy.ensures.4 _ c.join_seat.ensures.2 in
    truth_of (settings_of c.args.other.now) c.join_seat.new.seat.me.0 c.load.new.seat.me.0 (ap view_in c.load.ensures.2.1) (told_margin v w c.load.new.seat.me.0 e ∙ c.args.other.now.bounded) c.load.ensures.2.0

pub returns-clause-vouches : goal.returns-clause-vouches
returns-clause-vouches c =
    let v = view_of c.args.self.now in let w = view_of c.args.other.now in
    vouches_for c.args.self.now c.args.other.now c.join_seat.new.seat.me.0 c.requires.one (one_told v w c.split_seat-copy.result.me c.join_seat.new.seat.me c.split_seat-copy.ensures.4 _ c.join_seat.ensures.2) c.load.ensures.2.0
