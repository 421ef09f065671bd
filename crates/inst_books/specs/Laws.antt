-- Laws of books as text (inst_books::laws): what was written reads back. Promises of this hub.
use Rattle.std.specs.Prelude.{◌≡◌, ℕ, Bool, true, ◌&&◌, ◌==◌, if◌then◌else◌, Result, Ok}
use Rattle.std.specs.Prelude.{Err, IsOkAnd}
use Rattle.std.specs.Prelude.{List, [], ◌∷◌, length, get_or, take, flat_map}
use Rattle.std.specs.List.{list_all}
use Rattle.inst_base.specs.Cents.{is_amount}
use Rattle.inst_base.specs.Moment.{is_moment}
use Rattle.inst_base.specs.Text.{is_code, is_identifier, is_reason}
use Rattle.inst_settings.specs.Settings.{HubSettings, participants, is_participant}
use Rattle.inst_settings.specs.Lawful.{IsSettings}
use Rattle.inst_command.specs.declared.outcome.Outcome.{Outcome}
use Rattle.inst_command.specs.declared.outcome.Outcome.TheVariants.{Accepted, Rejected, TimedOut}
use Rattle.inst_journal.specs.declared.event.Event.{Event}
use Rattle.inst_journal.specs.declared.event.Event.TheVariants.{Funded, Defunded, Taken, Forwarded}
use Rattle.inst_journal.specs.declared.event.Event.TheVariants.{Booked, Fetched, Opened}
use Rattle.inst_journal.specs.Sound.{IsSound}
use Rattle.inst_base.specs.Newline.{NoNewline}
use Rattle.inst_json.specs.Members.{is_printable}
use Rattle.inst_log.specs.Layout.{gate, recovered_lines, blocks, AreWholeLines}
use Rattle.inst_books.specs.Events.{event_line, event_can_be_written}
use Rattle.inst_books.specs.declared.fault.BookFault.{BookFault}
use Rattle.inst_books.specs.Reading.{Entry, event_of_line}
use Rattle.inst_books.specs.Books.{AreWritable, book_lines, books_text, books_of_text}

-- True if a reason has its form.
abbrev pub outcome_has_form : Outcome → Bool
outcome_has_form Accepted = true
outcome_has_form (Rejected reason) = is_reason reason
outcome_has_form TimedOut = true

-- True if identifiers, amounts and moments have their form, as the program's types have.
abbrev pub event_has_form : Event → Bool
event_has_form (Funded funding) = is_identifier funding.reference && is_amount funding.cents
event_has_form (Defunded funding) = is_identifier funding.reference && is_amount funding.cents
event_has_form (Taken id to cents stamp) = is_identifier id && is_amount cents && is_moment stamp
event_has_form (Forwarded from id cents deadline) =
    is_identifier id && is_amount cents && is_moment deadline
event_has_form (Booked from id outcome) = is_identifier id && outcome_has_form outcome
event_has_form (Fetched count) = true
event_has_form Opened = true

-- An event in the book of participant `who` of a hub with these settings.
pub record IsEventOf (s : HubSettings) (who : ℕ) (event : Event) : Type 0 where
  pub settings : IsSettings s
  pub codes : list_all is_code s.codes ≡ true
  pub book : is_participant s who ≡ true
  pub writable : event_can_be_written s event ≡ true
  pub form : event_has_form event ≡ true

-- The line of an event is read as the event.
abbrev pub AnEventReadsBack : Type 0
AnEventReadsBack = (s : HubSettings) (who : ℕ) (event : Event) → IsEventOf s who event →
    event_of_line s (event_line s who event) ≡ Ok (who, event)

-- The line begins like a line of a log, and is printable ASCII without a newline.
pub record IsPlainLine (line : List ℕ) : Type 0 where
  pub begins : take 1 line ≡ gate ∷ []
  pub quiet : NoNewline line
  pub printable : list_all is_printable line ≡ true

-- The line of an event is plain.
abbrev pub AnEventIsAPlainLine : Type 0
AnEventIsAPlainLine = (s : HubSettings) (who : ℕ) (event : Event) → IsEventOf s who event →
    IsPlainLine (event_line s who event)

-- The same event, in the same book.
pub record IsSameEntry (who : ℕ) (a : Event) (other : ℕ) (b : Event) : Type 0 where
  pub book : who ≡ other
  pub event : a ≡ b

-- Two events with the same line are the same, and of one book.
abbrev pub ALineTellsItsEvent : Type 0
ALineTellsItsEvent =
    (s : HubSettings) (who other : ℕ) (a b : Event) → IsEventOf s who a → IsEventOf s other b →
    event_line s who a ≡ event_line s other b → IsSameEntry who a other b

-- Each event of a sound history can be written in the book of its participant.
abbrev pub ASoundHistoryCanBeWritten : Type 0
ASoundHistoryCanBeWritten =
    (s : HubSettings) (who : ℕ) (J : List Event) → is_participant s who ≡ true →
    IsSound s who J → list_all (event_can_be_written s) J ≡ true

-- The books of the participants of a hub with these settings, one for each in the order of their
-- numbers.
pub record AreBooksOf (s : HubSettings) (books : List (List Event)) : Type 0 where
  pub settings : IsSettings s
  pub codes : list_all is_code s.codes ≡ true
  pub one_each : length books ≡ participants s
  pub writable : AreWritable s books
  pub form : list_all (list_all event_has_form) books ≡ true

-- The text of books is read as the books.
abbrev pub BooksReadBack : Type 0
BooksReadBack = (s : HubSettings) (books : List (List Event)) → AreBooksOf s books →
    books_of_text s (books_text s books) ≡ Ok books

-- Each of the lines is plain.
abbrev pub ArePlainLines : List (List ℕ) → Type 0
ArePlainLines [] = Unit {0}
ArePlainLines (line ∷ lines) = IsPlainLine line × ArePlainLines lines

-- The lines are plain, and a log of these lines has them unescaped.
pub record AreLinesOfALog (lines : List (List ℕ)) : Type 0 where
  pub plain : ArePlainLines lines
  pub kept : recovered_lines (blocks lines) ≡ lines

-- The lines of books are plain, and a log has them unescaped.
abbrev pub BooksArePlainLines : Type 0
BooksArePlainLines = (s : HubSettings) (books : List (List Event)) → AreBooksOf s books →
    AreLinesOfALog (book_lines s books)

-- The event of a line, if it is in the book of participant p.
abbrev pub said_of : ℕ → Result Entry BookFault → List Event
said_of p (Ok entry) = if entry.0 == p then entry.1 ∷ [] else []
said_of p (Err fault) = []

-- Each line is an event of the book of some participant.
abbrev pub EachSaysAnEvent : HubSettings → List (List ℕ) → Type 0
EachSaysAnEvent s [] = Unit {0}
EachSaysAnEvent s (line ∷ lines) =
    IsOkAnd (event_of_line s line) (λ entry. is_participant s entry.0 ≡ true)
    × EachSaysAnEvent s lines

-- The text is whole lines, each of which is an event, and each participant's book has the events of
-- its lines, in their order.
pub record TellsTheBooks (s : HubSettings) (text : List ℕ) (books : List (List Event)) : Type 0
  where
    pub whole : AreWholeLines text
    pub events : EachSaysAnEvent s (recovered_lines text)
    pub one_each : length books ≡ participants s
    pub book : (p : ℕ) → is_participant s p ≡ true →
        get_or books p []
        ≡ flat_map (λ line. said_of p (event_of_line s line)) (recovered_lines text)

-- The books read from a text have what its lines say.
abbrev pub ATextTellsWhatItsLinesSay : Type 0
ATextTellsWhatItsLinesSay = (s : HubSettings) (text : List ℕ) (books : List (List Event)) →
    books_of_text s text ≡ Ok books → TellsTheBooks s text books

-- Books with the same text are the same.
abbrev pub ATextTellsItsBooks : Type 0
ATextTellsItsBooks = (s : HubSettings) (a b : List (List Event)) → AreBooksOf s a → AreBooksOf s b →
    books_text s a ≡ books_text s b → a ≡ b
