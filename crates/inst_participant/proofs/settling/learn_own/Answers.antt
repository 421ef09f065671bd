use Rattle.std.proofs.Common.{◌≡◌, ℕ, sym, ◌∙◌, subst}
use Rattle.inst_slot.specs.Book.{place_at}
use Rattle.inst_participant.specs.inner.Settling.{IsBookedAt}
use Rattle.inst_participant.proofs.SettlementPlaceByPlace.{later_on, own_more}
use Rattle.inst_participant.proofs.settling.learn_own.Goals as goal

pub returns-in_err-learn_at-clause-later : goal.returns-in_err-learn_at-clause-later
returns-in_err-learn_at-clause-later g c =
    let b = g.B.Board in
    later_on b.settings b.knows b.has_role (b.settings c.args.board.now).margin b.stood b.stays (λ x y. g.met.B.Board.stays_settings x y) (λ x y p. g.met.B.Board.stays_roles x y p) (λ x y z. g.met.B.Board.stays_on x y z) (λ x. g.met.B.Board.stays_still x)
    c.args.board.now c.loop-index.board c.learn_at.new.board c.args.slot.now c.loop-index.slot c.learn_at.new.slot c.loop-index.invariant.1 c.learn_at.ensures.later

pub loop-index-preserved : goal.loop-index-preserved
loop-index-preserved g c =
    let b = g.B.Board in
    let who : c.who-owner.result ≡ c.loop-index.slot.who = c.who-owner.ensures ∙ sym c.loop-index.invariant.1.who_is in
    let here = subst (λ (q : ℕ). IsBookedAt b.knows c.loop-index.board c.loop-index.slot (place_at q c.loop-index.index) c.learn_at.new.slot) who c.in_ok-learn_at.ensures.booked in (
      c.learn_at.ensures.ready,
      later_on b.settings b.knows b.has_role (b.settings c.args.board.now).margin b.stood b.stays (λ x y. g.met.B.Board.stays_settings x y) (λ x y p. g.met.B.Board.stays_roles x y p) (λ x y z. g.met.B.Board.stays_on x y z) (λ x. g.met.B.Board.stays_still x)
          c.args.board.now c.loop-index.board c.learn_at.new.board c.args.slot.now c.loop-index.slot c.learn_at.new.slot c.loop-index.invariant.1 c.learn_at.ensures.later,
      own_more b.settings b.knows b.has_role (b.settings c.args.board.now).margin b.stood b.stays (λ x y. g.met.B.Board.stays_settings x y) (λ x y p. g.met.B.Board.stays_roles x y p) (λ x y z. g.met.B.Board.stays_on x y z) (λ x. g.met.B.Board.stays_still x)
          c.args.board.now c.loop-index.board c.learn_at.new.board c.args.slot.now c.loop-index.slot c.learn_at.new.slot c.loop-index.index c.loop-index.invariant.1 c.learn_at.ensures.later here c.loop-index.invariant.2,
    )
