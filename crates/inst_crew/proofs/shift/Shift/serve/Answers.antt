use Rattle.inst_hub.proofs.CallUnderLock.{knows_twice}
use Rattle.inst_crew.proofs.StatesSeenByWorker.{all_seen_more, call_opened}
use Rattle.inst_crew.specs.inner.Workers.{ServesOne}
use Rattle.inst_crew.proofs.OneMoreServedJob.{on_ok, served_noted, served_unnoted}
use Rattle.inst_crew.proofs.shift.Shift.serve.Goals as goal

pub note-requires-clause-opened : goal.note-requires-clause-opened
note-requires-clause-opened g c = call_opened _ _ _ _ _ _ c.in_ok-ticket.ensures.call c.in-Some.is

pub note-requires-clause-seen : goal.note-requires-clause-seen
note-requires-clause-seen g c = all_seen_more _ _ _ c.call_with.ensures.knows c.requires.seen

pub returns-in-Some-clause-of : goal.returns-in-Some-clause-of
returns-in-Some-clause-of g c = c.note.ensures.of _ c.call_with.ensures.of

pub returns-in-Some-clause-knows : goal.returns-in-Some-clause-knows
returns-in-Some-clause-knows g c = knows_twice _ _ _ c.call_with.ensures.knows c.note.ensures.knows

pub returns-in-None-clause-seen : goal.returns-in-None-clause-seen
returns-in-None-clause-seen g c = all_seen_more _ _ _ c.call_with.ensures.knows c.requires.seen

pub returns-in-Some-clause-served : goal.returns-in-Some-clause-served
returns-in-Some-clause-served g c =
    on_ok c.note.result _ (ServesOne c.args.place.now.hub.now c.args.ask.now c.args.self.now c.note.new.self) c.note.ensures.noted
    (λ noted. served_noted _ _ _ _ _ c.args.self.now.states.items c.note.new.self.states.items _ _ c.in_ok-ticket.ensures.call c.note.ensures.knows c.in-Some.is noted)

pub returns-in-None-clause-served : goal.returns-in-None-clause-served
returns-in-None-clause-served g c = served_unnoted _ _ _ _ c.args.self.now.states.items _ c.in_ok-ticket.ensures.call c.in-None.is
