use Rattle.std.proofs.Common.{◌≡◌, ◌++◌, true, drop, take}
use Rattle.std.specs.List.{list_all}
use Rattle.inst_base.specs.Text.{is_code}
use Rattle.inst_log.specs.Layout.{blocks}
use Rattle.inst_books.specs.Events.{event_can_be_written}
use Rattle.inst_books.specs.Books.{all_events, book_lines_from}
use Rattle.inst_books.specs.Laws.{event_has_form}
use Rattle.inst_books.proofs.books.append_books.Given as goal

abbrev pub invariant-loop-who : goal.invariant-loop-who
invariant-loop-who l = record {
  writable : list_all (list_all (event_can_be_written l.settings)) (all_events (drop l.who l.journals)) ≡ true;
  form : list_all (list_all event_has_form) (all_events (take l.who l.journals)) ≡ true;
  codes : list_all is_code (take l.who l.settings.codes) ≡ true;
  rest : l.out.items ++ blocks (book_lines_from l.settings l.who (all_events (drop l.who l.journals)))
      ≡ l.fn.out.items ++ blocks (book_lines_from l.settings 0 (all_events l.journals));
}
