use Rattle.std.proofs.Common.{refl}
use Rattle.inst_participant.proofs.SettlementPlaceByPlace.{looked_later, looked_ready, owner_still, later_on, at_ok, delivered_later, ready_on, delivered_come, come_from}
use Rattle.inst_participant.proofs.settling.deliver_at.Goals as goal

pub returns-in-Unused-clause-ready : goal.returns-in-Unused-clause-ready
returns-in-Unused-clause-ready g c =
    let b = g.B.Board in
    looked_ready b.settings b.knows b.has_role (b.settings c.args.board.now).margin b.stood b.stays (λ x y. g.met.B.Board.stays_settings x y) (λ x y p. g.met.B.Board.stays_roles x y p) (λ x y z. g.met.B.Board.stays_on x y z) (λ x. g.met.B.Board.stays_still x)
    c.args.board.now c.look.new.self c.args.place c.look.result c.look.ensures.look refl c.args.slot.now c.requires.ready c.requires.owner c.look.ensures.stays

pub returns-in-Unused-clause-later : goal.returns-in-Unused-clause-later
returns-in-Unused-clause-later g c =
    let b = g.B.Board in
    looked_later b.settings b.knows b.has_role (b.settings c.args.board.now).margin b.stood b.stays (λ x y. g.met.B.Board.stays_settings x y) (λ x y p. g.met.B.Board.stays_roles x y p) (λ x y z. g.met.B.Board.stays_on x y z) (λ x. g.met.B.Board.stays_still x)
    c.args.board.now c.look.new.self c.args.place c.look.result c.look.ensures.look refl c.args.slot.now c.requires.ready c.requires.owner c.look.ensures.stays

pub returns-in-Decided-clause-ready : goal.returns-in-Decided-clause-ready
returns-in-Decided-clause-ready g c =
    let b = g.B.Board in
    looked_ready b.settings b.knows b.has_role (b.settings c.args.board.now).margin b.stood b.stays (λ x y. g.met.B.Board.stays_settings x y) (λ x y p. g.met.B.Board.stays_roles x y p) (λ x y z. g.met.B.Board.stays_on x y z) (λ x. g.met.B.Board.stays_still x)
    c.args.board.now c.look.new.self c.args.place c.look.result c.look.ensures.look refl c.args.slot.now c.requires.ready c.requires.owner c.look.ensures.stays

pub returns-in-Decided-clause-later : goal.returns-in-Decided-clause-later
returns-in-Decided-clause-later g c =
    let b = g.B.Board in
    looked_later b.settings b.knows b.has_role (b.settings c.args.board.now).margin b.stood b.stays (λ x y. g.met.B.Board.stays_settings x y) (λ x y p. g.met.B.Board.stays_roles x y p) (λ x y z. g.met.B.Board.stays_on x y z) (λ x. g.met.B.Board.stays_still x)
    c.args.board.now c.look.new.self c.args.place c.look.result c.look.ensures.look refl c.args.slot.now c.requires.ready c.requires.owner c.look.ensures.stays

pub returns-then-terms-who-clause-ready : goal.returns-then-terms-who-clause-ready
returns-then-terms-who-clause-ready g c =
    let b = g.B.Board in
    looked_ready b.settings b.knows b.has_role (b.settings c.args.board.now).margin b.stood b.stays (λ x y. g.met.B.Board.stays_settings x y) (λ x y p. g.met.B.Board.stays_roles x y p) (λ x y z. g.met.B.Board.stays_on x y z) (λ x. g.met.B.Board.stays_still x)
    c.args.board.now c.look.new.self c.args.place c.look.result c.look.ensures.look refl c.args.slot.now c.requires.ready c.requires.owner c.look.ensures.stays

pub returns-then-terms-who-clause-later : goal.returns-then-terms-who-clause-later
returns-then-terms-who-clause-later g c =
    let b = g.B.Board in
    looked_later b.settings b.knows b.has_role (b.settings c.args.board.now).margin b.stood b.stays (λ x y. g.met.B.Board.stays_settings x y) (λ x y p. g.met.B.Board.stays_roles x y p) (λ x y z. g.met.B.Board.stays_on x y z) (λ x. g.met.B.Board.stays_still x)
    c.args.board.now c.look.new.self c.args.place c.look.result c.look.ensures.look refl c.args.slot.now c.requires.ready c.requires.owner c.look.ensures.stays

pub deliver-requires-clause-lawful : goal.deliver-requires-clause-lawful
deliver-requires-clause-lawful g c =
    let b = g.B.Board in
    let r = looked_ready b.settings b.knows b.has_role (b.settings c.args.board.now).margin b.stood b.stays (λ x y. g.met.B.Board.stays_settings x y) (λ x y p. g.met.B.Board.stays_roles x y p) (λ x y z. g.met.B.Board.stays_on x y z) (λ x. g.met.B.Board.stays_still x)
    c.args.board.now c.look.new.self c.args.place c.look.result c.look.ensures.look refl c.args.slot.now c.requires.ready c.requires.owner c.look.ensures.stays in
    r.lawful

pub returns-in_err-deliver-in-Pending-clause-ready : goal.returns-in_err-deliver-in-Pending-clause-ready
returns-in_err-deliver-in-Pending-clause-ready g c =
    let b = g.B.Board in
    let e = c.deliver.ensures in
    let r = looked_ready b.settings b.knows b.has_role (b.settings c.args.board.now).margin b.stood b.stays (λ x y. g.met.B.Board.stays_settings x y) (λ x y p. g.met.B.Board.stays_roles x y p) (λ x y z. g.met.B.Board.stays_on x y z) (λ x. g.met.B.Board.stays_still x)
    c.args.board.now c.look.new.self c.args.place c.look.result c.look.ensures.look refl c.args.slot.now c.requires.ready c.requires.owner c.look.ensures.stays in
    let owner = owner_still b.settings b.knows b.has_role (b.settings c.args.board.now).margin b.stood b.stays (λ x y. g.met.B.Board.stays_settings x y) (λ x y p. g.met.B.Board.stays_roles x y p) (λ x y z. g.met.B.Board.stays_on x y z) (λ x. g.met.B.Board.stays_still x)
    c.args.board.now c.look.new.self c.args.place c.look.result c.look.ensures.look refl c.args.slot.now c.requires.ready c.requires.owner c.look.ensures.stays in
    let second = delivered_later b.settings b.knows b.has_role (b.settings c.look.new.self).margin b.stood b.stays (λ x y. g.met.B.Board.stays_settings x y) (λ x y p. g.met.B.Board.stays_roles x y p) (λ x y z. g.met.B.Board.stays_on x y z) (λ x. g.met.B.Board.stays_still x)
    c.look.new.self c.deliver.new.board c.args.place e.delivers.0 e.delivers.1 owner r.all e.law.holder c.args.slot.now e.law.others c.deliver.new.self c.deliver.result e.delivers.2 in
    ready_on b.settings b.knows b.has_role (b.settings c.look.new.self).margin b.stood b.stays (λ x y. g.met.B.Board.stays_settings x y) (λ x y p. g.met.B.Board.stays_roles x y p) (λ x y z. g.met.B.Board.stays_on x y z) (λ x. g.met.B.Board.stays_still x)
    c.look.new.self c.deliver.new.board c.args.slot.now c.deliver.new.self r second e.law.lawful (e.law.adopted r.adopted)

pub returns-in_err-deliver-in-Pending-clause-later : goal.returns-in_err-deliver-in-Pending-clause-later
returns-in_err-deliver-in-Pending-clause-later g c =
    let b = g.B.Board in
    let e = c.deliver.ensures in
    let r = looked_ready b.settings b.knows b.has_role (b.settings c.args.board.now).margin b.stood b.stays (λ x y. g.met.B.Board.stays_settings x y) (λ x y p. g.met.B.Board.stays_roles x y p) (λ x y z. g.met.B.Board.stays_on x y z) (λ x. g.met.B.Board.stays_still x)
    c.args.board.now c.look.new.self c.args.place c.look.result c.look.ensures.look refl c.args.slot.now c.requires.ready c.requires.owner c.look.ensures.stays in
    let first = looked_later b.settings b.knows b.has_role (b.settings c.args.board.now).margin b.stood b.stays (λ x y. g.met.B.Board.stays_settings x y) (λ x y p. g.met.B.Board.stays_roles x y p) (λ x y z. g.met.B.Board.stays_on x y z) (λ x. g.met.B.Board.stays_still x)
    c.args.board.now c.look.new.self c.args.place c.look.result c.look.ensures.look refl c.args.slot.now c.requires.ready c.requires.owner c.look.ensures.stays in
    let owner = owner_still b.settings b.knows b.has_role (b.settings c.args.board.now).margin b.stood b.stays (λ x y. g.met.B.Board.stays_settings x y) (λ x y p. g.met.B.Board.stays_roles x y p) (λ x y z. g.met.B.Board.stays_on x y z) (λ x. g.met.B.Board.stays_still x)
    c.args.board.now c.look.new.self c.args.place c.look.result c.look.ensures.look refl c.args.slot.now c.requires.ready c.requires.owner c.look.ensures.stays in
    let second = delivered_later b.settings b.knows b.has_role (b.settings c.look.new.self).margin b.stood b.stays (λ x y. g.met.B.Board.stays_settings x y) (λ x y p. g.met.B.Board.stays_roles x y p) (λ x y z. g.met.B.Board.stays_on x y z) (λ x. g.met.B.Board.stays_still x)
    c.look.new.self c.deliver.new.board c.args.place e.delivers.0 e.delivers.1 owner r.all e.law.holder c.args.slot.now e.law.others c.deliver.new.self c.deliver.result e.delivers.2 in
    later_on b.settings b.knows b.has_role (b.settings c.args.board.now).margin b.stood b.stays (λ x y. g.met.B.Board.stays_settings x y) (λ x y p. g.met.B.Board.stays_roles x y p) (λ x y z. g.met.B.Board.stays_on x y z) (λ x. g.met.B.Board.stays_still x)
    c.args.board.now c.look.new.self c.deliver.new.board c.args.slot.now c.args.slot.now c.deliver.new.self first second

pub returns-in_ok-deliver-in-Pending-clause-ready : goal.returns-in_ok-deliver-in-Pending-clause-ready
returns-in_ok-deliver-in-Pending-clause-ready g c =
    let b = g.B.Board in
    let e = c.deliver.ensures in
    let r = looked_ready b.settings b.knows b.has_role (b.settings c.args.board.now).margin b.stood b.stays (λ x y. g.met.B.Board.stays_settings x y) (λ x y p. g.met.B.Board.stays_roles x y p) (λ x y z. g.met.B.Board.stays_on x y z) (λ x. g.met.B.Board.stays_still x)
    c.args.board.now c.look.new.self c.args.place c.look.result c.look.ensures.look refl c.args.slot.now c.requires.ready c.requires.owner c.look.ensures.stays in
    let owner = owner_still b.settings b.knows b.has_role (b.settings c.args.board.now).margin b.stood b.stays (λ x y. g.met.B.Board.stays_settings x y) (λ x y p. g.met.B.Board.stays_roles x y p) (λ x y z. g.met.B.Board.stays_on x y z) (λ x. g.met.B.Board.stays_still x)
    c.args.board.now c.look.new.self c.args.place c.look.result c.look.ensures.look refl c.args.slot.now c.requires.ready c.requires.owner c.look.ensures.stays in
    let second = delivered_later b.settings b.knows b.has_role (b.settings c.look.new.self).margin b.stood b.stays (λ x y. g.met.B.Board.stays_settings x y) (λ x y p. g.met.B.Board.stays_roles x y p) (λ x y z. g.met.B.Board.stays_on x y z) (λ x. g.met.B.Board.stays_still x)
    c.look.new.self c.deliver.new.board c.args.place e.delivers.0 e.delivers.1 owner r.all e.law.holder c.args.slot.now e.law.others c.deliver.new.self c.deliver.result e.delivers.2 in
    ready_on b.settings b.knows b.has_role (b.settings c.look.new.self).margin b.stood b.stays (λ x y. g.met.B.Board.stays_settings x y) (λ x y p. g.met.B.Board.stays_roles x y p) (λ x y z. g.met.B.Board.stays_on x y z) (λ x. g.met.B.Board.stays_still x)
    c.look.new.self c.deliver.new.board c.args.slot.now c.deliver.new.self r second e.law.lawful (e.law.adopted r.adopted)

pub returns-in_ok-deliver-in-Pending-clause-later : goal.returns-in_ok-deliver-in-Pending-clause-later
returns-in_ok-deliver-in-Pending-clause-later g c =
    let b = g.B.Board in
    let e = c.deliver.ensures in
    let r = looked_ready b.settings b.knows b.has_role (b.settings c.args.board.now).margin b.stood b.stays (λ x y. g.met.B.Board.stays_settings x y) (λ x y p. g.met.B.Board.stays_roles x y p) (λ x y z. g.met.B.Board.stays_on x y z) (λ x. g.met.B.Board.stays_still x)
    c.args.board.now c.look.new.self c.args.place c.look.result c.look.ensures.look refl c.args.slot.now c.requires.ready c.requires.owner c.look.ensures.stays in
    let first = looked_later b.settings b.knows b.has_role (b.settings c.args.board.now).margin b.stood b.stays (λ x y. g.met.B.Board.stays_settings x y) (λ x y p. g.met.B.Board.stays_roles x y p) (λ x y z. g.met.B.Board.stays_on x y z) (λ x. g.met.B.Board.stays_still x)
    c.args.board.now c.look.new.self c.args.place c.look.result c.look.ensures.look refl c.args.slot.now c.requires.ready c.requires.owner c.look.ensures.stays in
    let owner = owner_still b.settings b.knows b.has_role (b.settings c.args.board.now).margin b.stood b.stays (λ x y. g.met.B.Board.stays_settings x y) (λ x y p. g.met.B.Board.stays_roles x y p) (λ x y z. g.met.B.Board.stays_on x y z) (λ x. g.met.B.Board.stays_still x)
    c.args.board.now c.look.new.self c.args.place c.look.result c.look.ensures.look refl c.args.slot.now c.requires.ready c.requires.owner c.look.ensures.stays in
    let second = delivered_later b.settings b.knows b.has_role (b.settings c.look.new.self).margin b.stood b.stays (λ x y. g.met.B.Board.stays_settings x y) (λ x y p. g.met.B.Board.stays_roles x y p) (λ x y z. g.met.B.Board.stays_on x y z) (λ x. g.met.B.Board.stays_still x)
    c.look.new.self c.deliver.new.board c.args.place e.delivers.0 e.delivers.1 owner r.all e.law.holder c.args.slot.now e.law.others c.deliver.new.self c.deliver.result e.delivers.2 in
    later_on b.settings b.knows b.has_role (b.settings c.args.board.now).margin b.stood b.stays (λ x y. g.met.B.Board.stays_settings x y) (λ x y p. g.met.B.Board.stays_roles x y p) (λ x y z. g.met.B.Board.stays_on x y z) (λ x. g.met.B.Board.stays_still x)
    c.args.board.now c.look.new.self c.deliver.new.board c.args.slot.now c.args.slot.now c.deliver.new.self first second

pub returns-in_ok-deliver-in-Pending-clause-come : goal.returns-in_ok-deliver-in-Pending-clause-come
returns-in_ok-deliver-in-Pending-clause-come g c =
    let b = g.B.Board in
    let e = c.deliver.ensures in
    let r = looked_ready b.settings b.knows b.has_role (b.settings c.args.board.now).margin b.stood b.stays (λ x y. g.met.B.Board.stays_settings x y) (λ x y p. g.met.B.Board.stays_roles x y p) (λ x y z. g.met.B.Board.stays_on x y z) (λ x. g.met.B.Board.stays_still x)
    c.args.board.now c.look.new.self c.args.place c.look.result c.look.ensures.look refl c.args.slot.now c.requires.ready c.requires.owner c.look.ensures.stays in
    let first = looked_later b.settings b.knows b.has_role (b.settings c.args.board.now).margin b.stood b.stays (λ x y. g.met.B.Board.stays_settings x y) (λ x y p. g.met.B.Board.stays_roles x y p) (λ x y z. g.met.B.Board.stays_on x y z) (λ x. g.met.B.Board.stays_still x)
    c.args.board.now c.look.new.self c.args.place c.look.result c.look.ensures.look refl c.args.slot.now c.requires.ready c.requires.owner c.look.ensures.stays in
    let owner = owner_still b.settings b.knows b.has_role (b.settings c.args.board.now).margin b.stood b.stays (λ x y. g.met.B.Board.stays_settings x y) (λ x y p. g.met.B.Board.stays_roles x y p) (λ x y z. g.met.B.Board.stays_on x y z) (λ x. g.met.B.Board.stays_still x)
    c.args.board.now c.look.new.self c.args.place c.look.result c.look.ensures.look refl c.args.slot.now c.requires.ready c.requires.owner c.look.ensures.stays in
    let come = at_ok c.deliver.result c.in_ok-deliver-in-Pending.field-0 c.in_ok-deliver-in-Pending.was (delivered_come b.settings b.knows b.has_role (b.settings c.look.new.self).margin b.stood b.stays (λ x y. g.met.B.Board.stays_settings x y) (λ x y p. g.met.B.Board.stays_roles x y p) (λ x y z. g.met.B.Board.stays_on x y z) (λ x. g.met.B.Board.stays_still x)
    c.look.new.self c.deliver.new.board c.args.place e.delivers.0 e.delivers.1 owner r.all e.law.holder c.args.slot.now c.deliver.new.self c.deliver.result e.delivers.2) in
    come_from b.settings b.knows b.has_role (b.settings c.args.board.now).margin b.stood b.stays (λ x y. g.met.B.Board.stays_settings x y) (λ x y p. g.met.B.Board.stays_roles x y p) (λ x y z. g.met.B.Board.stays_on x y z) (λ x. g.met.B.Board.stays_still x)
    c.args.board.now c.look.new.self c.args.slot.now c.args.slot.now c.deliver.new.self c.args.place first come
