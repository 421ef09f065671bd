use Rattle.std.proofs.Common.{length, arith, ap, List}
use Rattle.std.proofs.lemmas.Option.{slice_get_within}
use Rattle.inst_slot.specs.declared.arrival.Arrival.{Arrival}
use Rattle.inst_participant.proofs.SettlementPlaceByPlace.{later_on, arrived_more, arrived_all, arrival_owner}
use Rattle.inst_participant.proofs.settling.learn_arrived.Goals as goal

pub returns-in_err-learn_at-clause-later : goal.returns-in_err-learn_at-clause-later
returns-in_err-learn_at-clause-later g c =
    let b = g.B.Board in
    later_on b.settings b.knows b.has_role (b.settings c.args.board.now).margin b.stood b.stays (λ x y. g.met.B.Board.stays_settings x y) (λ x y p. g.met.B.Board.stays_roles x y p) (λ x y z. g.met.B.Board.stays_on x y z) (λ x. g.met.B.Board.stays_still x)
    c.args.board.now c.loop-position.board c.learn_at.new.board c.args.slot.now c.loop-position.slot c.learn_at.new.slot c.loop-position.invariant.1 c.learn_at.ensures.later

pub learn_at-requires-clause-owner : goal.learn_at-requires-clause-owner
learn_at-requires-clause-owner g c =
    let b = g.B.Board in
    arrival_owner b.settings b.knows b.has_role (b.settings c.args.board.now).margin b.stood b.stays (λ x y. g.met.B.Board.stays_settings x y) (λ x y p. g.met.B.Board.stays_roles x y p) (λ x y z. g.met.B.Board.stays_on x y z) (λ x. g.met.B.Board.stays_still x)
    c.loop-position.board c.loop-position.slot c.loop-position.from c.in-Some.position c.in-Some.place (λ j a k. g.met.B.Board.knows_places c.loop-position.board j a k) c.loop-position.invariant.0.lawful c.in-Some.ensures.next

pub overflow_add-from : goal.overflow_add-from
overflow_add-from g c =
    let below = slice_get_within c.loop-position.slot.arrivals c.in-Some.position c.in-Some.ensures.next.arrival c.in-Some.ensures.next.there in
    omega (arith, below, c.in-Some.ensures.few)

pub loop-position-smaller : goal.loop-position-smaller
loop-position-smaller g c =
    let below = slice_get_within c.loop-position.slot.arrivals c.in-Some.position c.in-Some.ensures.next.arrival c.in-Some.ensures.next.there in
    let within = c.in-Some.ensures.next.within in
    let same = ap (λ (A : List Arrival). length A) c.learn_at.ensures.arrivals in
    omega (arith, below, within, same)

pub loop-position-preserved : goal.loop-position-preserved
loop-position-preserved g c =
    let b = g.B.Board in
    let sound = c.in-Some.ensures.sound in (
      c.learn_at.ensures.ready,
      later_on b.settings b.knows b.has_role (b.settings c.args.board.now).margin b.stood b.stays (λ x y. g.met.B.Board.stays_settings x y) (λ x y p. g.met.B.Board.stays_roles x y p) (λ x y z. g.met.B.Board.stays_on x y z) (λ x. g.met.B.Board.stays_still x)
          c.args.board.now c.loop-position.board c.learn_at.new.board c.args.slot.now c.loop-position.slot c.learn_at.new.slot c.loop-position.invariant.1 c.learn_at.ensures.later,
      arrived_more b.settings b.knows b.has_role (b.settings c.args.board.now).margin b.stood b.stays (λ x y. g.met.B.Board.stays_settings x y) (λ x y p. g.met.B.Board.stays_roles x y p) (λ x y z. g.met.B.Board.stays_on x y z) (λ x. g.met.B.Board.stays_still x)
          c.args.board.now c.loop-position.board c.learn_at.new.board c.args.slot.now c.loop-position.slot c.learn_at.new.slot c.loop-position.from c.in-Some.position c.in-Some.place c.loop-position.slot.settings sound c.loop-position.invariant.0.lawful
          c.loop-position.invariant.1 c.learn_at.ensures.later c.learn_at.ensures.arrivals c.in-Some.ensures.next c.in_ok-learn_at.ensures.booked c.loop-position.invariant.2,
    )

pub returns-clause-booked : goal.returns-clause-booked
returns-clause-booked g c =
    let b = g.B.Board in
    arrived_all b.settings b.knows b.has_role (b.settings c.args.board.now).margin b.stood b.stays (λ x y. g.met.B.Board.stays_settings x y) (λ x y p. g.met.B.Board.stays_roles x y p) (λ x y z. g.met.B.Board.stays_on x y z) (λ x. g.met.B.Board.stays_still x)
    c.args.board.now c.loop-position.slot c.loop-position.from c.in_default.ensures.next c.loop-position.invariant.2
