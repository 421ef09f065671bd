use Rattle.std.proofs.Common.{◌≡◌, ◌+◌, sym, ◌∙◌, subst}
use Rattle.inst_slot.specs.Book.{Book}
use Rattle.inst_participant.specs.Settling.{IsReadyToSettle, IsLater}
use Rattle.inst_participant.proofs.SettlementPlaceByPlace.{later_on, owner_more, own_skipped, AllComeBelow}
use Rattle.inst_participant.proofs.settling.deliver_all.Goals as goal
use Rattle.inst_participant.proofs.settling.deliver_all.Goals.{then-owner-own+in_ok-deliver_from, else-owner-own}

pub returns-in_err-deliver_from-clause-later : goal.returns-in_err-deliver_from-clause-later
returns-in_err-deliver_from-clause-later g c =
    let b = g.B.Board in
    later_on b.settings b.knows b.has_role (b.settings c.args.board.now).margin b.stood b.stays (λ x y. g.met.B.Board.stays_settings x y) (λ x y p. g.met.B.Board.stays_roles x y p) (λ x y z. g.met.B.Board.stays_on x y z) (λ x. g.met.B.Board.stays_still x)
    c.args.board.now c.loop-owner.board c.deliver_from.new.board c.args.slot.now c.loop-owner.slot c.deliver_from.new.slot c.loop-owner.invariant.1 c.deliver_from.ensures.later

pub loop-owner-preserved : goal.loop-owner-preserved
loop-owner-preserved g c =
    let b = g.B.Board in
    let who : c.from-own.result ≡ c.loop-owner.slot.who = c.from-own.ensures ∙ (c.who.ensures ∙ sym c.loop-owner.invariant.1.who_is) in
    elim c.if-owner-own.branch [
      | then-owner-own+in_ok-deliver_from w ↦
          subst (λ (y : Book). IsReadyToSettle b.settings b.knows b.has_role c.if-owner-own.board y × IsLater b.settings b.knows b.has_role b.stays c.args.board.now c.args.slot.now c.if-owner-own.board y × AllComeBelow b.knows c.args.board.now (c.loop-owner.owner + 1) y) (sym w.slot-is)
          (subst (λ d. IsReadyToSettle b.settings b.knows b.has_role d w.deliver_from.new.slot × IsLater b.settings b.knows b.has_role b.stays c.args.board.now c.args.slot.now d w.deliver_from.new.slot × AllComeBelow b.knows c.args.board.now (c.loop-owner.owner + 1) w.deliver_from.new.slot) (sym w.board-is) (
            w.deliver_from.ensures.ready,
            later_on b.settings b.knows b.has_role (b.settings c.args.board.now).margin b.stood b.stays (λ x y. g.met.B.Board.stays_settings x y) (λ x y p. g.met.B.Board.stays_roles x y p) (λ x y z. g.met.B.Board.stays_on x y z) (λ x. g.met.B.Board.stays_still x)
                c.args.board.now c.loop-owner.board w.deliver_from.new.board c.args.slot.now c.loop-owner.slot w.deliver_from.new.slot c.loop-owner.invariant.1 w.deliver_from.ensures.later,
            owner_more b.settings b.knows b.has_role (b.settings c.args.board.now).margin b.stood b.stays (λ x y. g.met.B.Board.stays_settings x y) (λ x y p. g.met.B.Board.stays_roles x y p) (λ x y z. g.met.B.Board.stays_on x y z) (λ x. g.met.B.Board.stays_still x)
                c.args.board.now c.loop-owner.board w.deliver_from.new.board c.args.slot.now c.loop-owner.slot w.deliver_from.new.slot c.loop-owner.owner c.loop-owner.invariant.1 w.deliver_from.ensures.later w.in_ok-deliver_from.ensures.come c.loop-owner.invariant.2,
          ))
      | else-owner-own w ↦
          subst (λ (y : Book). IsReadyToSettle b.settings b.knows b.has_role c.if-owner-own.board y × IsLater b.settings b.knows b.has_role b.stays c.args.board.now c.args.slot.now c.if-owner-own.board y × AllComeBelow b.knows c.args.board.now (c.loop-owner.owner + 1) y) (sym w.slot-is)
          (subst (λ d. IsReadyToSettle b.settings b.knows b.has_role d c.loop-owner.slot × IsLater b.settings b.knows b.has_role b.stays c.args.board.now c.args.slot.now d c.loop-owner.slot × AllComeBelow b.knows c.args.board.now (c.loop-owner.owner + 1) c.loop-owner.slot) (sym w.board-is) (
            c.loop-owner.invariant.0,
            c.loop-owner.invariant.1,
            own_skipped b.settings b.knows b.has_role (b.settings c.args.board.now).margin b.stood b.stays (λ x y. g.met.B.Board.stays_settings x y) (λ x y p. g.met.B.Board.stays_roles x y p) (λ x y z. g.met.B.Board.stays_on x y z) (λ x. g.met.B.Board.stays_still x)
                c.args.board.now c.loop-owner.slot c.loop-owner.owner (w.if-owner-own.false ∙ who) c.loop-owner.invariant.2,
          ))
    ]
