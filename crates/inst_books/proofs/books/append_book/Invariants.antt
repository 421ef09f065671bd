use Rattle.std.proofs.Common.{◌≡◌, ◌++◌, true, drop, take, map}
use Rattle.std.specs.List.{list_all}
use Rattle.inst_log.specs.Layout.{blocks}
use Rattle.inst_books.specs.Events.{event_line, event_can_be_written}
use Rattle.inst_books.specs.Laws.{event_has_form}
use Rattle.inst_books.proofs.books.append_book.Given as goal

abbrev pub invariant-loop-event : goal.invariant-loop-event
invariant-loop-event l = record {
  writable : list_all (event_can_be_written l.settings) (drop l.event-index l.events) ≡ true;
  form : list_all event_has_form (take l.event-index l.events) ≡ true;
  rest : l.out.items ++ blocks (map (event_line l.settings l.fn.who) (drop l.event-index l.events))
      ≡ l.fn.out.items ++ blocks (map (event_line l.settings l.fn.who) l.events);
}
