use Rattle.std.proofs.Common.{◌≡◌, ◌∙◌, arith, sym, ap, subst}
use Rattle.inst_settings.specs.Settings.{HubSettings, participants}
use Rattle.inst_model.specs.Closing.{AreClosed}
use Rattle.inst_participant.specs.Together.{histories}
use Rattle.inst_participant.proofs.OneBookSettlesOthersStay.{parts_on, one_more_settled, closed_then, told_then}
use Rattle.inst_participant.proofs.settled.settle_each.Goals as goal

pub settle_one-requires : goal.settle_one-requires
settle_one-requires g c =
    let b = g.B.Board in
    let same = g.met.B.Board.stays_settings c.args.board.now c.loop-who.board c.loop-who.invariant.0.stays_on in
    let many : participants (b.settings c.loop-who.board) ≡ c.participants-who-end.result = ap participants (same ∙ c.requires.settings) ∙ sym c.participants-who-end.ensures.value in
    record {
      parts = (c.requires.parts.0, c.loop-who.invariant.0.parts c.requires.parts.0 c.requires.parts.1);
      participant = omega (arith, c.loop-who-test.true, many);
    }

pub loop-who-preserved : goal.loop-who-preserved
loop-who-preserved g c =
    let b = g.B.Board in (
      parts_on b.settings b.knows b.has_role b.stays (λ x y. g.met.B.Board.stays_settings x y) (λ x y p. g.met.B.Board.stays_roles x y p) (λ x y z. g.met.B.Board.stays_on x y z) (λ x. g.met.B.Board.stays_still x) (λ x k a. g.met.B.Board.knows_places x k a)
          c.args.board.now c.loop-who.board c.settle_one.new.board c.args.slots.now.items c.loop-who.slots.items c.settle_one.new.slots.items c.loop-who.invariant.0 c.settle_one.ensures.later,
      one_more_settled b.settings b.knows b.has_role b.stays (λ x y. g.met.B.Board.stays_settings x y) (λ x y p. g.met.B.Board.stays_roles x y p) (λ x y z. g.met.B.Board.stays_on x y z) (λ x. g.met.B.Board.stays_still x) (λ x k a. g.met.B.Board.knows_places x k a)
          c.loop-who.board c.settle_one.new.board c.loop-who.who c.loop-who.slots.items c.settle_one.new.slots.items c.in_ok-settle_one.ensures.settled c.settle_one.ensures.kept c.loop-who.invariant.1,
    )

pub returns-clause-closed : goal.returns-clause-closed
returns-clause-closed g c =
    let b = g.B.Board in
    let same = g.met.B.Board.stays_settings c.args.board.now c.loop-who.board c.loop-who.invariant.0.stays_on in
    let many : participants (b.settings c.loop-who.board) ≡ c.participants-who-end.result = ap participants (same ∙ c.requires.settings) ∙ sym c.participants-who-end.ensures.value in
    let parts = c.loop-who.invariant.0.parts c.requires.parts.0 c.requires.parts.1 in
    subst (λ (s : HubSettings). AreClosed s (histories c.loop-who.slots.items)) (same ∙ c.requires.settings)
    (closed_then b.settings b.knows b.has_role b.stays (λ x y. g.met.B.Board.stays_settings x y) (λ x y p. g.met.B.Board.stays_roles x y p) (λ x y z. g.met.B.Board.stays_on x y z) (λ x. g.met.B.Board.stays_still x) (λ x k a. g.met.B.Board.knows_places x k a)
    c.loop-who.board c.requires.parts.0 c.loop-who.who c.loop-who.slots.items parts (omega (arith, c.loop-who-test.false, many)) c.loop-who.invariant.1)

pub returns-clause-told : goal.returns-clause-told
returns-clause-told g c =
    let b = g.B.Board in
    let same = g.met.B.Board.stays_settings c.args.board.now c.loop-who.board c.loop-who.invariant.0.stays_on in
    let many : participants (b.settings c.loop-who.board) ≡ c.participants-who-end.result = ap participants (same ∙ c.requires.settings) ∙ sym c.participants-who-end.ensures.value in
    let parts = c.loop-who.invariant.0.parts c.requires.parts.0 c.requires.parts.1 in
    told_then b.settings b.knows b.has_role b.stays (λ x y. g.met.B.Board.stays_settings x y) (λ x y p. g.met.B.Board.stays_roles x y p) (λ x y z. g.met.B.Board.stays_on x y z) (λ x. g.met.B.Board.stays_still x) (λ x k a. g.met.B.Board.knows_places x k a)
    c.args.board.now c.loop-who.board c.requires.parts.0 c.loop-who.who c.args.slots.now.items c.loop-who.slots.items c.loop-who.invariant.0 parts (omega (arith, c.loop-who-test.false, many)) c.loop-who.invariant.1
