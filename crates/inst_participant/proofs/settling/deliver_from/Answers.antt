use Rattle.inst_participant.proofs.SettlementPlaceByPlace.{later_on, come_more, come_all}
use Rattle.inst_participant.proofs.settling.deliver_from.Goals as goal

pub returns-in_err-deliver_at-clause-later : goal.returns-in_err-deliver_at-clause-later
returns-in_err-deliver_at-clause-later g c =
    let b = g.B.Board in
    later_on b.settings b.knows b.has_role (b.settings c.args.board.now).margin b.stood b.stays (λ x y. g.met.B.Board.stays_settings x y) (λ x y p. g.met.B.Board.stays_roles x y p) (λ x y z. g.met.B.Board.stays_on x y z) (λ x. g.met.B.Board.stays_still x)
    c.args.board.now c.loop-index.board c.deliver_at.new.board c.args.slot.now c.loop-index.slot c.deliver_at.new.slot c.loop-index.invariant.1 c.deliver_at.ensures.later

pub loop-index-preserved : goal.loop-index-preserved
loop-index-preserved g c =
    let b = g.B.Board in (
      c.deliver_at.ensures.ready,
      later_on b.settings b.knows b.has_role (b.settings c.args.board.now).margin b.stood b.stays (λ x y. g.met.B.Board.stays_settings x y) (λ x y p. g.met.B.Board.stays_roles x y p) (λ x y z. g.met.B.Board.stays_on x y z) (λ x. g.met.B.Board.stays_still x)
          c.args.board.now c.loop-index.board c.deliver_at.new.board c.args.slot.now c.loop-index.slot c.deliver_at.new.slot c.loop-index.invariant.1 c.deliver_at.ensures.later,
      come_more b.settings b.knows b.has_role (b.settings c.args.board.now).margin b.stood b.stays (λ x y. g.met.B.Board.stays_settings x y) (λ x y p. g.met.B.Board.stays_roles x y p) (λ x y z. g.met.B.Board.stays_on x y z) (λ x. g.met.B.Board.stays_still x)
          c.args.board.now c.loop-index.board c.deliver_at.new.board c.args.slot.now c.loop-index.slot c.deliver_at.new.slot c.args.owner c.loop-index.index c.loop-index.invariant.1 c.deliver_at.ensures.later c.in_ok-deliver_at.ensures.come c.loop-index.invariant.2,
    )

pub returns-then-not-branch-clause-later : goal.returns-then-not-branch-clause-later
returns-then-not-branch-clause-later g c =
    let b = g.B.Board in
    later_on b.settings b.knows b.has_role (b.settings c.args.board.now).margin b.stood b.stays (λ x y. g.met.B.Board.stays_settings x y) (λ x y p. g.met.B.Board.stays_roles x y p) (λ x y z. g.met.B.Board.stays_on x y z) (λ x. g.met.B.Board.stays_still x)
    c.args.board.now c.loop-index.board c.deliver_at.new.board c.args.slot.now c.loop-index.slot c.deliver_at.new.slot c.loop-index.invariant.1 c.deliver_at.ensures.later

pub returns-then-not-branch-clause-come : goal.returns-then-not-branch-clause-come
returns-then-not-branch-clause-come g c =
    let b = g.B.Board in
    let done = come_more b.settings b.knows b.has_role (b.settings c.args.board.now).margin b.stood b.stays (λ x y. g.met.B.Board.stays_settings x y) (λ x y p. g.met.B.Board.stays_roles x y p) (λ x y z. g.met.B.Board.stays_on x y z) (λ x. g.met.B.Board.stays_still x)
    c.args.board.now c.loop-index.board c.deliver_at.new.board c.args.slot.now c.loop-index.slot c.deliver_at.new.slot c.args.owner c.loop-index.index c.loop-index.invariant.1 c.deliver_at.ensures.later c.in_ok-deliver_at.ensures.come c.loop-index.invariant.2 in
    come_all b.settings b.knows b.has_role (b.settings c.args.board.now).margin b.stood b.stays (λ x y. g.met.B.Board.stays_settings x y) (λ x y p. g.met.B.Board.stays_roles x y p) (λ x y z. g.met.B.Board.stays_on x y z) (λ x. g.met.B.Board.stays_still x)
    c.args.board.now c.loop-index.board c.args.slot.now c.loop-index.slot c.deliver_at.new.slot c.args.owner c.loop-index.index c.requires.ready.all c.loop-index.invariant.1 (c.in_ok-deliver_at.ensures.unused c.if-not-branch.true) done
