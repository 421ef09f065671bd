-- The books of all participants as text: the lines of one book after those of another, in the order
-- of the participants' numbers, each with its newline. A choice of this hub.
use Rattle.std.specs.Prelude.{◌≡◌, ℕ, zero, suc, ◌+◌, ◌==◌, true, if◌then◌else◌, Result, Ok, Err}
use Rattle.std.specs.Prelude.{List, [], ◌∷◌, ◌++◌, length, map, replicate}
use Rattle.std.specs.List.{list_all}
use Rattle.inst_settings.specs.Settings.{HubSettings, participants}
use Rattle.inst_journal.specs.declared.event.Event.{Event}
use Rattle.inst_journal.specs.History.{History}
use Rattle.inst_log.specs.Layout.{recovered_lines, blocks}
use Rattle.inst_books.specs.declared.fault.BookFault.{BookFault}
use Rattle.inst_books.specs.declared.fault.BookFault.TheVariants.{BadLine}
use Rattle.inst_books.specs.Events.{event_line, event_can_be_written}
use Rattle.inst_books.specs.Reading.{Entry, event_of_line}

-- The events of each journal.
abbrev pub all_events : List History → List (List Event)
all_events journals = map (λ journal. journal.events) journals

-- Each event of the books can be written.
abbrev pub AreWritable : HubSettings → List (List Event) → Type 0
AreWritable s books = list_all (list_all (event_can_be_written s)) books ≡ true

-- The lines of the books of the participants from `who` on.
abbrev pub book_lines_from : HubSettings → ℕ → List (List Event) → List (List ℕ)
book_lines_from s who [] = []
book_lines_from s who (book ∷ books) = map (event_line s who) book
    ++ book_lines_from s (who + 1) books

-- The lines of all books.
abbrev pub book_lines : HubSettings → List (List Event) → List (List ℕ)
book_lines s books = book_lines_from s 0 books

-- All books as text.
unfoldable pub books_text : HubSettings → List (List Event) → List ℕ
books_text s books = blocks (book_lines s books)

-- Books without events, one for each participant.
abbrev pub no_books : HubSettings → List (List Event)
no_books s = replicate (participants s) []

-- The books with one more event in that of participant `who`.
abbrev pub books_with_event : ℕ → Event → List (List Event) → List (List Event)
books_with_event who event [] = []
books_with_event zero event (book ∷ books) = (book ++ event ∷ []) ∷ books
books_with_event (suc who) event (book ∷ books) = book ∷ books_with_event who event books

-- The result of reading an event: it is appended to its book, and the other lines follow; stops at
-- the first bad line.
abbrev pub go_on : (List (List Event) → Result (List (List Event)) BookFault) → List (List Event) →
    Result Entry BookFault → Result (List (List Event)) BookFault
go_on others books (Ok entry) = others (books_with_event entry.0 entry.1 books)
go_on others books (Err fault) = Err fault

-- The books with the events of these lines appended in order.
abbrev pub with_lines : HubSettings → List (List ℕ) → List (List Event) →
    Result (List (List Event)) BookFault
with_lines s [] books = Ok books
with_lines s (line ∷ lines) books = go_on (with_lines s lines) books (event_of_line s line)

-- The books in a text, one for each participant. The text must be whole lines, each of which begins
-- like a line of a log.
unfoldable pub books_of_text : HubSettings → List ℕ → Result (List (List Event)) BookFault
books_of_text s text =
    if length (blocks (recovered_lines text)) == length text
    then with_lines s (recovered_lines text) (no_books s)
    else Err BadLine
