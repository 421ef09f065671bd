use Rattle.std.proofs.Common.{◌≡◌, true, subst}
use Rattle.inst_row.specs.Row.{key_of}
use Rattle.std.specs.Prelude.{IfSome}
use Rattle.inst_settings.specs.Settings.{is_participant}
use Rattle.inst_cell.specs.Seen.{sight_knows}
use Rattle.inst_participant.specs.Following.{follow_up_after}
use Rattle.inst_participant.specs.declared.participant.Participant.{Participant}
use Rattle.inst_hub.proofs.CallUnderLock.{out_of_box, still_knows, seen_both, asks_of, lock_of, left_of, none_after}
use Rattle.inst_participant.proofs.LaterParticipant.{behind_later}
use Rattle.inst_hub.proofs.CarriedHistoryStays.{since_later, serve_carries}
use Rattle.inst_hub.proofs.hub.Hub.ask.Goals as goal

pub give-requires-clause-has : goal.give-requires-clause-has
give-requires-clause-has g c =
    let x = c.deref_mut.result.now in
    let found = out_of_box (key_of c.args.self.now.row) c.from-lock.result c.args.teller.now.seat c.take-participant.new.seat c.take-participant.result x c.deref_mut.ensures.value
    c.take-participant.ensures.found.lawful c.take-participant.ensures.found.goes_on c.take-participant.ensures.taken.has c.take-participant.ensures.taken.sees in
    (x.slot.events, found.has, c.serve-answer.ensures.stays.grows)

pub give-requires-clause-law : goal.give-requires-clause-law
give-requires-clause-law g c =
    let x = c.deref_mut.result.now in
    let found = out_of_box (key_of c.args.self.now.row) c.from-lock.result c.args.teller.now.seat c.take-participant.new.seat c.take-participant.result x c.deref_mut.ensures.value
    c.take-participant.ensures.found.lawful c.take-participant.ensures.found.goes_on c.take-participant.ensures.taken.has c.take-participant.ensures.taken.sees in
    since_later (key_of c.args.self.now.row) c.from-lock.result c.take-participant.result x c.serve-answer.new.self c.deref_mut.ensures.value c.take-participant.ensures.found.lawful
    (behind_later (key_of c.args.self.now.row).words.value c.from-lock.result x c.serve-answer.new.self found.law.behind c.serve-answer.ensures.stays.later c.serve-answer.ensures.stays.ready)
    (serve_carries c.args.ask.now (sight_knows c.serve-answer.new.teller) x c.serve-answer.new.self c.serve-answer.result c.serve-answer.ensures.answers c.serve-answer.ensures.left)

pub returns-clause-knows : goal.returns-clause-knows
returns-clause-knows g c = still_knows c.args.teller.now c.take-participant.new.seat c.serve-answer.new.teller c.give.new.seat _ _ _
    c.serve-answer.ensures.sees.kept c.take-participant.ensures.taken.sees c.give.ensures.sees

pub returns-clause-call : goal.returns-clause-call
returns-clause-call g c =
    let x = c.deref_mut.result.now in
    let found = out_of_box (key_of c.args.self.now.row) c.from-lock.result c.args.teller.now.seat c.take-participant.new.seat c.take-participant.result x c.deref_mut.ensures.value
    c.take-participant.ensures.found.lawful c.take-participant.ensures.found.goes_on c.take-participant.ensures.taken.has c.take-participant.ensures.taken.sees in
    let y = c.serve-answer.new.self in
    let follows = subst (λ (z : Participant). c.follow_up-follow_up.result ≡ follow_up_after z.slot.events c.args.ask.now.command c.serve-answer.result) c.deref.ensures c.follow_up-follow_up.ensures.follows in
    asks_of c.args.self.now c.args.teller.now record { sight = c.serve-answer.new.teller; seat = c.give.new.seat } c.args.ask.now c.serve-answer.result c.follow_up-follow_up.result x y c.from-lock.result c.from-lock.ensures
    found.law found.goes_on
    (seen_both c.args.teller.now.seat c.take-participant.new.seat c.give.new.seat c.from-lock.result x.slot.events y.slot.events found.sees c.give.ensures.sees)
    c.serve-answer.ensures.stays.sound c.serve-answer.ensures.answers follows

pub returns-clause-lock : goal.returns-clause-lock
returns-clause-lock g c =
    let x = c.deref_mut.result.now in
    let found = out_of_box (key_of c.args.self.now.row) c.from-lock.result c.args.teller.now.seat c.take-participant.new.seat c.take-participant.result x c.deref_mut.ensures.value
    c.take-participant.ensures.found.lawful c.take-participant.ensures.found.goes_on c.take-participant.ensures.taken.has c.take-participant.ensures.taken.sees in
    lock_of c.args.self.now c.from-lock.result x c.serve-answer.new.self c.follow_up-follow_up.result found.law c.serve-answer.ensures.stays.later
    (subst (λ (z : Participant). IfSome c.follow_up-follow_up.result (λ f. is_participant z.slot.settings f.who ≡ true)) c.deref.ensures c.follow_up-follow_up.ensures.participant)

pub returns-clause-left : goal.returns-clause-left
returns-clause-left g c =
    let x = c.deref_mut.result.now in
    let found = out_of_box (key_of c.args.self.now.row) c.from-lock.result c.args.teller.now.seat c.take-participant.new.seat c.take-participant.result x c.deref_mut.ensures.value
    c.take-participant.ensures.found.lawful c.take-participant.ensures.found.goes_on c.take-participant.ensures.taken.has c.take-participant.ensures.taken.sees in
    let y = c.serve-answer.new.self in
    left_of c.args.self.now c.args.teller.now record { sight = c.serve-answer.new.teller; seat = c.give.new.seat } c.args.ask.now c.serve-answer.result x y c.from-lock.result c.from-lock.ensures found.law found.goes_on
    (seen_both c.args.teller.now.seat c.take-participant.new.seat c.give.new.seat c.from-lock.result x.slot.events y.slot.events found.sees c.give.ensures.sees)
    c.serve-answer.ensures.left

pub returns-clause-none : goal.returns-clause-none
returns-clause-none g c = none_after c.serve-answer.new.self.slot.events c.args.ask.now.command c.serve-answer.result c.follow_up-follow_up.result
    (subst (λ (z : Participant). c.follow_up-follow_up.result ≡ follow_up_after z.slot.events c.args.ask.now.command c.serve-answer.result) c.deref.ensures c.follow_up-follow_up.ensures.follows)
