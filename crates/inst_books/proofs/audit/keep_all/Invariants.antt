use Rattle.std.proofs.Common.{◌≡◌, take}
use Rattle.inst_journal.specs.Sound.{IsSound}
use Rattle.inst_books.proofs.audit.keep_all.Given as goal

abbrev pub invariant-loop-event : goal.invariant-loop-event
invariant-loop-event l = record {
  book : l.replay ≡ record l.fn.replay { events = take l.event-index l.journal.events };
  sound : IsSound l.fn.replay.settings l.fn.replay.who (take l.event-index l.journal.events);
}
