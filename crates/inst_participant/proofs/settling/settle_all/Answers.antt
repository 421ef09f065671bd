use Rattle.std.proofs.Common.{◌≢◌, ℕ}
use Rattle.std.specs.Prelude.{Result, Ok, Err, IfOk}
use Rattle.std.specs.declared.alloc.AllocError.{AllocError}
use Rattle.inst_participant.specs.Together.{HasSettledAll}
use Rattle.inst_participant.specs.inner.Settling.{HaveCome}
use Rattle.inst_participant.proofs.SettlementPlaceByPlace.{later_on, settled_then}
use Rattle.inst_participant.proofs.settling.settle_all.Goals as goal

pub returns-in_err-learn_arrived-clause-later : goal.returns-in_err-learn_arrived-clause-later
returns-in_err-learn_arrived-clause-later g c =
    let b = g.B.Board in
    later_on b.settings b.knows b.has_role (b.settings c.args.board.now).margin b.stood b.stays (λ x y. g.met.B.Board.stays_settings x y) (λ x y p. g.met.B.Board.stays_roles x y p) (λ x y z. g.met.B.Board.stays_on x y z) (λ x. g.met.B.Board.stays_still x)
    c.args.board.now c.learn_own.new.board c.learn_arrived.new.board c.args.slot.now c.learn_own.new.slot c.learn_arrived.new.slot c.learn_own.ensures.later c.learn_arrived.ensures.later

pub returns-clause-later : goal.returns-clause-later
returns-clause-later g c =
    let b = g.B.Board in
    let two = later_on b.settings b.knows b.has_role (b.settings c.args.board.now).margin b.stood b.stays (λ x y. g.met.B.Board.stays_settings x y) (λ x y p. g.met.B.Board.stays_roles x y p) (λ x y z. g.met.B.Board.stays_on x y z) (λ x. g.met.B.Board.stays_still x)
    c.args.board.now c.learn_own.new.board c.learn_arrived.new.board c.args.slot.now c.learn_own.new.slot c.learn_arrived.new.slot c.learn_own.ensures.later c.learn_arrived.ensures.later in
    later_on b.settings b.knows b.has_role (b.settings c.args.board.now).margin b.stood b.stays (λ x y. g.met.B.Board.stays_settings x y) (λ x y p. g.met.B.Board.stays_roles x y p) (λ x y z. g.met.B.Board.stays_on x y z) (λ x. g.met.B.Board.stays_still x)
    c.args.board.now c.learn_arrived.new.board c.deliver_all.new.board c.args.slot.now c.learn_arrived.new.slot c.deliver_all.new.slot two c.deliver_all.ensures.later

pub returns-clause-settled : goal.returns-clause-settled
returns-clause-settled g c =
    let b = g.B.Board in
    if_ok c.deliver_all.result
    (λ v. (owner : ℕ) → owner ≢ c.deliver_all.new.slot.who → HaveCome b.knows c.learn_arrived.new.board owner c.deliver_all.new.slot) (λ v. HasSettledAll b.knows c.args.board.now c.deliver_all.new.slot)
    (λ v come. settled_then b.settings b.knows b.has_role (b.settings c.args.board.now).margin b.stood b.stays (λ x y. g.met.B.Board.stays_settings x y) (λ x y p. g.met.B.Board.stays_roles x y p) (λ x y z. g.met.B.Board.stays_on x y z) (λ x. g.met.B.Board.stays_still x)
    c.args.board.now c.learn_own.new.board c.learn_arrived.new.board c.deliver_all.new.board c.args.slot.now c.learn_own.new.slot c.learn_arrived.new.slot c.deliver_all.new.slot
    c.learn_own.ensures.later c.learn_arrived.ensures.later c.deliver_all.ensures.later c.in_ok-learn_own.ensures.booked c.in_ok-learn_arrived.ensures.booked come)
    c.deliver_all.ensures.come
  where
    if_ok : (r : Result (Unit {0}) AllocError) (P Q : Unit {0} → Type 0) → ((v : Unit {0}) → P v → Q v) → IfOk r P → IfOk r Q
    if_ok (Ok v) P Q f h = f v h
    if_ok (Err e) P Q f h = tt
