-- The effect of reading one line on the books.
use Rattle.std.specs.Prelude.{◌≡◌, ◌⊎◌, Result, Ok, Err, List}
use Rattle.inst_journal.specs.declared.event.Event.{Event}
use Rattle.inst_books.specs.declared.fault.BookFault.{BookFault}
use Rattle.inst_books.specs.declared.fault.BookFault.TheVariants.{Memory}
use Rattle.inst_books.specs.Reading.{Entry}
use Rattle.inst_books.specs.Books.{books_with_event}

-- The event of the line was appended to its book; or the line is bad, or an allocation failed.
abbrev pub KeepsEvent : Result Entry BookFault → Result (Unit {0}) BookFault → List (List Event) →
    List (List Event) →
    Type 0
KeepsEvent (Ok entry) (Ok done) before after = after ≡ books_with_event entry.0 entry.1 before
KeepsEvent (Ok entry) (Err fault) before after = fault ≡ Memory
KeepsEvent (Err bad) (Ok done) before after = ⊥
KeepsEvent (Err bad) (Err fault) before after = (fault ≡ Memory) ⊎ (fault ≡ bad)
