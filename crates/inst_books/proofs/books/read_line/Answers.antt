use Rattle.std.proofs.Common.{ap, ◌∙◌}
use Rattle.std.specs.List.{list_all}
use Rattle.inst_books.specs.Events.{event_can_be_written}
use Rattle.inst_books.specs.Books.{all_events}
use Rattle.inst_books.proofs.Journals.{with_event_writable}
use Rattle.inst_books.proofs.books.read_line.Goals as goal

pub returns-clause-writable : goal.returns-clause-writable
returns-clause-writable c =
    let s = c.args.settings.now in
    ap (list_all (list_all (event_can_be_written s))) c.in_ok-keep.ensures
    ∙ with_event_writable s c.in_ok-who.who c.in_ok-who.event (all_events c.args.journals.now) c.in_ok-who.ensures.writable c.requires.writable
