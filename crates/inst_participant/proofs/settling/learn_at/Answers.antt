use Rattle.inst_participant.proofs.SettlementPlaceByPlace.{at_ok, learnt_later, ready_on, learnt_booked}
use Rattle.inst_participant.proofs.settling.learn_at.Goals as goal

pub returns-in_err-learn-clause-ready : goal.returns-in_err-learn-clause-ready
returns-in_err-learn-clause-ready g c =
    let b = g.B.Board in
    let e = c.learn.ensures in
    let look = e.learns.0 in
    let l = learnt_later b.settings b.knows b.has_role (b.settings c.args.board.now).margin b.stood b.stays (λ x y. g.met.B.Board.stays_settings x y) (λ x y p. g.met.B.Board.stays_roles x y p) (λ x y z. g.met.B.Board.stays_on x y z) (λ x. g.met.B.Board.stays_still x)
    c.args.board.now c.learn.new.board c.args.place look e.learns.1 c.requires.owner c.requires.ready.all e.law.holder c.args.slot.now e.law.others c.learn.new.self c.learn.result e.learns.2 in
    ready_on b.settings b.knows b.has_role (b.settings c.args.board.now).margin b.stood b.stays (λ x y. g.met.B.Board.stays_settings x y) (λ x y p. g.met.B.Board.stays_roles x y p) (λ x y z. g.met.B.Board.stays_on x y z) (λ x. g.met.B.Board.stays_still x)
    c.args.board.now c.learn.new.board c.args.slot.now c.learn.new.self c.requires.ready l e.law.lawful (e.law.adopted c.requires.ready.adopted)

pub returns-clause-ready : goal.returns-clause-ready
returns-clause-ready g c =
    let b = g.B.Board in
    let e = c.learn.ensures in
    let look = e.learns.0 in
    let l = learnt_later b.settings b.knows b.has_role (b.settings c.args.board.now).margin b.stood b.stays (λ x y. g.met.B.Board.stays_settings x y) (λ x y p. g.met.B.Board.stays_roles x y p) (λ x y z. g.met.B.Board.stays_on x y z) (λ x. g.met.B.Board.stays_still x)
    c.args.board.now c.learn.new.board c.args.place look e.learns.1 c.requires.owner c.requires.ready.all e.law.holder c.args.slot.now e.law.others c.learn.new.self c.learn.result e.learns.2 in
    ready_on b.settings b.knows b.has_role (b.settings c.args.board.now).margin b.stood b.stays (λ x y. g.met.B.Board.stays_settings x y) (λ x y p. g.met.B.Board.stays_roles x y p) (λ x y z. g.met.B.Board.stays_on x y z) (λ x. g.met.B.Board.stays_still x)
    c.args.board.now c.learn.new.board c.args.slot.now c.learn.new.self c.requires.ready l e.law.lawful (e.law.adopted c.requires.ready.adopted)

pub returns-in_err-learn-clause-later : goal.returns-in_err-learn-clause-later
returns-in_err-learn-clause-later g c =
    let b = g.B.Board in
    let e = c.learn.ensures in
    let look = e.learns.0 in
    let l = learnt_later b.settings b.knows b.has_role (b.settings c.args.board.now).margin b.stood b.stays (λ x y. g.met.B.Board.stays_settings x y) (λ x y p. g.met.B.Board.stays_roles x y p) (λ x y z. g.met.B.Board.stays_on x y z) (λ x. g.met.B.Board.stays_still x)
    c.args.board.now c.learn.new.board c.args.place look e.learns.1 c.requires.owner c.requires.ready.all e.law.holder c.args.slot.now e.law.others c.learn.new.self c.learn.result e.learns.2 in
    l

pub returns-clause-later : goal.returns-clause-later
returns-clause-later g c =
    let b = g.B.Board in
    let e = c.learn.ensures in
    let look = e.learns.0 in
    let l = learnt_later b.settings b.knows b.has_role (b.settings c.args.board.now).margin b.stood b.stays (λ x y. g.met.B.Board.stays_settings x y) (λ x y p. g.met.B.Board.stays_roles x y p) (λ x y z. g.met.B.Board.stays_on x y z) (λ x. g.met.B.Board.stays_still x)
    c.args.board.now c.learn.new.board c.args.place look e.learns.1 c.requires.owner c.requires.ready.all e.law.holder c.args.slot.now e.law.others c.learn.new.self c.learn.result e.learns.2 in
    l

pub returns-clause-booked : goal.returns-clause-booked
returns-clause-booked g c =
    let b = g.B.Board in
    let e = c.learn.ensures in
    at_ok c.learn.result c.in_ok-learn.field-0 c.in_ok-learn.was (learnt_booked b.settings b.knows b.has_role (b.settings c.args.board.now).margin b.stood b.stays (λ x y. g.met.B.Board.stays_settings x y) (λ x y p. g.met.B.Board.stays_roles x y p) (λ x y z. g.met.B.Board.stays_on x y z) (λ x. g.met.B.Board.stays_still x)
    c.args.board.now c.learn.new.board c.args.place e.learns.0 e.learns.1 c.requires.owner c.requires.ready.all e.law.holder c.args.slot.now c.requires.ready.lawful c.learn.new.self c.learn.result e.learns.2)
