use Rattle.std.proofs.Common.{sym, subst, List}
use Rattle.inst_command.specs.declared.place.Place.{Place}
use Rattle.inst_command.specs.declared.outcome.State.{State}
use Rattle.inst_crew.specs.inner.Seen.{AreSeen}
use Rattle.inst_crew.proofs.StatesSeenByWorker.{all_seen_more, one_more_seen}
use Rattle.inst_crew.proofs.shift.Shift.note.Goals as goal

pub returns-clause-seen : goal.returns-clause-seen
returns-clause-seen c =
    let p = c.peek-state.ensures in
    subst (λ (l : List (Place × State)). AreSeen c.peek-state.new.self l) (sym c.in_ok-push.ensures.items)
    (one_more_seen _ _ _ (all_seen_more _ _ _ p.knows c.requires.seen)
    record { opened = p.knows.facts _ c.requires.opened; used = p.opened c.requires.opened; outcome = λ o e. p.shown o e })

pub returns-clause-noted : goal.returns-clause-noted
returns-clause-noted c = (c.peek-state.result, c.in_ok-push.ensures.items)
