use Rattle.inst_participant.specs.Together.{HasSettledAll}
use Rattle.inst_participant.proofs.OneBookSettlesOthersStay.{at, one_later, one_settled, others_settled, if_ok}
use Rattle.inst_participant.proofs.settled.settle_one.Goals as goal

pub settle-requires : goal.settle-requires
settle-requires g c =
    let b = g.B.Board in
    let a = at b.settings b.knows b.has_role b.stays (λ x y. g.met.B.Board.stays_settings x y) (λ x y p. g.met.B.Board.stays_roles x y p) (λ x y z. g.met.B.Board.stays_on x y z) (λ x. g.met.B.Board.stays_still x) (λ x k a. g.met.B.Board.knows_places x k a)
    c.args.board.now c.requires.parts.0 c.args.slots.now.items c.args.who c.from.result c.index_mut.result.now c.requires.parts.1 c.requires.participant c.from.ensures c.index_mut.ensures.value in
    record { ready = a.ready }

pub returns-clause-later : goal.returns-clause-later
returns-clause-later g c =
    let b = g.B.Board in
    let a = at b.settings b.knows b.has_role b.stays (λ x y. g.met.B.Board.stays_settings x y) (λ x y p. g.met.B.Board.stays_roles x y p) (λ x y z. g.met.B.Board.stays_on x y z) (λ x. g.met.B.Board.stays_still x) (λ x k a. g.met.B.Board.knows_places x k a)
    c.args.board.now c.requires.parts.0 c.args.slots.now.items c.args.who c.from.result c.index_mut.result.now c.requires.parts.1 c.requires.participant c.from.ensures c.index_mut.ensures.value in
    one_later b.settings b.knows b.has_role b.stays (λ x y. g.met.B.Board.stays_settings x y) (λ x y p. g.met.B.Board.stays_roles x y p) (λ x y z. g.met.B.Board.stays_on x y z) (λ x. g.met.B.Board.stays_still x) (λ x k a. g.met.B.Board.knows_places x k a)
    c.args.board.now c.settle.new.board c.requires.parts.0 c.args.slots.now.items c.args.who c.from.result c.index_mut.result.now c.settle.new.slot a c.settle.ensures.later c.settle.ensures.ready c.settle.ensures.sound

pub returns-clause-settled : goal.returns-clause-settled
returns-clause-settled g c =
    let b = g.B.Board in
    let a = at b.settings b.knows b.has_role b.stays (λ x y. g.met.B.Board.stays_settings x y) (λ x y p. g.met.B.Board.stays_roles x y p) (λ x y z. g.met.B.Board.stays_on x y z) (λ x. g.met.B.Board.stays_still x) (λ x k a. g.met.B.Board.knows_places x k a)
    c.args.board.now c.requires.parts.0 c.args.slots.now.items c.args.who c.from.result c.index_mut.result.now c.requires.parts.1 c.requires.participant c.from.ensures c.index_mut.ensures.value in
    if_ok c.settle.result (λ v. HasSettledAll b.knows c.settle.new.board c.settle.new.slot) _ (λ v done. one_settled b.settings b.knows b.has_role b.stays (λ x y. g.met.B.Board.stays_settings x y) (λ x y p. g.met.B.Board.stays_roles x y p) (λ x y z. g.met.B.Board.stays_on x y z) (λ x. g.met.B.Board.stays_still x) (λ x k a. g.met.B.Board.knows_places x k a)
    c.args.board.now c.settle.new.board c.requires.parts.0 c.args.slots.now.items c.args.who c.from.result c.index_mut.result.now c.settle.new.slot a c.settle.ensures.later c.settle.ensures.ready c.settle.ensures.sound done) c.settle.ensures.settled

pub returns-clause-kept : goal.returns-clause-kept
returns-clause-kept g c =
    let b = g.B.Board in
    let a = at b.settings b.knows b.has_role b.stays (λ x y. g.met.B.Board.stays_settings x y) (λ x y p. g.met.B.Board.stays_roles x y p) (λ x y z. g.met.B.Board.stays_on x y z) (λ x. g.met.B.Board.stays_still x) (λ x k a. g.met.B.Board.knows_places x k a)
    c.args.board.now c.requires.parts.0 c.args.slots.now.items c.args.who c.from.result c.index_mut.result.now c.requires.parts.1 c.requires.participant c.from.ensures c.index_mut.ensures.value in
    others_settled b.settings b.knows b.has_role b.stays (λ x y. g.met.B.Board.stays_settings x y) (λ x y p. g.met.B.Board.stays_roles x y p) (λ x y z. g.met.B.Board.stays_on x y z) (λ x. g.met.B.Board.stays_still x) (λ x k a. g.met.B.Board.knows_places x k a)
    c.args.board.now c.settle.new.board c.requires.parts.0 c.args.slots.now.items c.args.who c.from.result c.index_mut.result.now c.settle.new.slot a c.settle.ensures.later c.settle.ensures.ready c.settle.ensures.sound
