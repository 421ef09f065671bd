use Rattle.inst_row.specs.Row.{key_of}
use Rattle.inst_hub.specs.declared.teller.Teller.{Teller}
use Rattle.inst_hub.proofs.CallUnderLock.{out_of_box, still_knows, seen_both}
use Rattle.inst_participant.proofs.LaterParticipant.{behind_later}
use Rattle.inst_participant.proofs.SweepStepByStep.{all_grows}
use Rattle.inst_hub.proofs.SweepUnderLock.{sweep_at}
use Rattle.inst_hub.proofs.CarriedHistoryStays.{since_later, all_carries}
use Rattle.inst_hub.proofs.hub.Hub.sweep.Goals as goal

pub give-requires-clause-has : goal.give-requires-clause-has
give-requires-clause-has g c =
    let x = c.deref_mut.result.now in
    let found = out_of_box (key_of c.args.self.now.row) c.from-lock.result c.args.teller.now.seat c.take-participant.new.seat c.take-participant.result x c.deref_mut.ensures.value
    c.take-participant.ensures.found.lawful c.take-participant.ensures.found.goes_on c.take-participant.ensures.taken.has c.take-participant.ensures.taken.sees in
    (x.slot.events, found.has, all_grows _ _ c.sweep-answer.ensures.told)

pub give-requires-clause-law : goal.give-requires-clause-law
give-requires-clause-law g c =
    let x = c.deref_mut.result.now in
    let found = out_of_box (key_of c.args.self.now.row) c.from-lock.result c.args.teller.now.seat c.take-participant.new.seat c.take-participant.result x c.deref_mut.ensures.value
    c.take-participant.ensures.found.lawful c.take-participant.ensures.found.goes_on c.take-participant.ensures.taken.has c.take-participant.ensures.taken.sees in
    since_later (key_of c.args.self.now.row) c.from-lock.result c.take-participant.result x c.sweep-answer.new.self c.deref_mut.ensures.value c.take-participant.ensures.found.lawful
    (behind_later (key_of c.args.self.now.row).words.value c.from-lock.result x c.sweep-answer.new.self found.law.behind c.sweep-answer.ensures.later c.sweep-answer.ensures.ready)
    (all_carries x.slot.events c.sweep-answer.new.self.slot.events c.sweep-answer.ensures.told)

pub returns-clause-knows : goal.returns-clause-knows
returns-clause-knows g c = still_knows c.args.teller.now c.take-participant.new.seat c.args.teller.now.sight c.give.new.seat _ _ _
    (λ f k. k) c.take-participant.ensures.taken.sees c.give.ensures.sees

pub returns-clause-sweep : goal.returns-clause-sweep
returns-clause-sweep g c =
    let x = c.deref_mut.result.now in
    let found = out_of_box (key_of c.args.self.now.row) c.from-lock.result c.args.teller.now.seat c.take-participant.new.seat c.take-participant.result x c.deref_mut.ensures.value
    c.take-participant.ensures.found.lawful c.take-participant.ensures.found.goes_on c.take-participant.ensures.taken.has c.take-participant.ensures.taken.sees in
    let u : Teller = record { sight = c.args.teller.now.sight; seat = c.give.new.seat } in
    sweep_at c.args.self.now c.args.teller.now u c.args.who c.args.at c.sweep-answer.result x c.sweep-answer.new.self c.from-lock.result c.from-lock.ensures
    found.law found.goes_on
    (seen_both c.args.teller.now.seat c.take-participant.new.seat c.give.new.seat c.from-lock.result x.slot.events c.sweep-answer.new.self.slot.events found.sees c.give.ensures.sees)
    c.sweep-answer.ensures.told c.sweep-answer.ensures.sweeps c.sweep-answer.ensures.whole
