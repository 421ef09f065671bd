-- The first lines of a log: its hub's settings, and the books that it opened from. A choice of this
-- hub.
use Rattle.std.specs.Prelude.{◌≡◌, ◌⊎◌, ◌<◌, ◌^◌, ℕ, Bool, true, false, List, [], ◌∷◌, ◌++◌, length}
use Rattle.std.specs.Prelude.{Option, None, Some, IfSome, codes, decimal, if◌then◌else◌}
use Rattle.inst_settings.specs.Settings.{HubSettings}
use Rattle.inst_settings.specs.Lawful.{AreOfAHub}
use Rattle.inst_lines.specs.declared.mode.Mode.{Mode}
use Rattle.inst_lines.specs.declared.mode.Mode.TheVariants.{Run, Play}
use Rattle.inst_journal.specs.History.{History}
use Rattle.inst_world.specs.NextOpening.{CanOpenFrom}
use Rattle.inst_books.specs.Books.{all_events, books_text}
use Rattle.inst_books.specs.Laws.{AreBooksOf}
use Rattle.inst_log.specs.Layout.{recovered_lines, blocks, at_rest}
use Rattle.inst_log.specs.Escape.{raw_of}
use Rattle.inst_chain.specs.Chain.{mark_of, IsHexadecimal}
use Rattle.inst_chain.specs.declared.digest.Digest.{Digest}
use Rattle.inst_logged.specs.declared.header.Origin.{Origin}
use Rattle.inst_logged.specs.declared.version.Version.{Version}
use Rattle.inst_logged.specs.declared.version.Version.TheVariants.{One, Two}

-- The mode as a word.
abbrev pub mode_word : Mode → List ℕ
mode_word Run = codes "run"
mode_word Play = codes "play"

-- A code in quotes.
abbrev pub quoted : List ℕ → List ℕ
quoted code = 34 ∷ (code ++ 34 ∷ [])

-- The comma before a code, unless it is the first.
abbrev pub comma_if : Bool → List ℕ
comma_if later = if later then 44 ∷ [] else []

-- The codes, each in quotes, separated by commas, with one before the first if `later`.
abbrev pub quoted_codes : Bool → List (List ℕ) → List ℕ
quoted_codes later [] = []
quoted_codes later (code ∷ codes) = comma_if later ++ quoted code ++ quoted_codes true codes

-- A name, with what precedes it, and a number.
abbrev pub header_field : List ℕ → ℕ → List ℕ
header_field name number = name ++ decimal number

-- The member with the mode.
abbrev pub mode_field : Mode → List ℕ
mode_field mode = codes ",\"log\":\"" ++ mode_word mode ++ codes "\""

-- The member with the participants.
abbrev pub participants_field : List (List ℕ) → List ℕ
participants_field participants =
    codes ",\"participants\":[" ++ quoted_codes false participants ++ codes "]"

-- The member with the number of lines of books, if the hub opened from books.
abbrev pub books_field : Option ℕ → List ℕ
books_field None = []
books_field (Some count) = header_field (codes ",\"books\":") count

-- The member with the last digest of the log before, if the line has one.
abbrev pub previous_field : Option Digest → List ℕ
previous_field None = []
previous_field (Some digest) = codes ",\"previous\":" ++ quoted digest.text

-- What the first line says of a hub that opened for the first time.
abbrev pub first_origin : Origin
first_origin = record { books = None; previous = None }

-- The member with the version, and the end of the line.
abbrev pub version_word : Version → List ℕ
version_word One = codes "\"version\":1}"
version_word Two = codes "\"version\":2}"

-- The settings line: compact JSON, its keys in byte order.
abbrev pub header_line : Version → Mode → HubSettings → Origin → List ℕ
header_line version mode s origin =
    header_field (codes "{\"ahead\":") s.ahead ++ header_field (codes ",\"base\":") s.base
    ++ books_field origin.books
    ++ header_field (codes ",\"ceiling\":") s.ceiling
    ++ header_field (codes ",\"fundings\":") s.fundings
    ++ header_field (codes ",\"limit\":") s.limit
    ++ mode_field mode
    ++ header_field (codes ",\"margin\":") s.margin ++ participants_field s.codes
    ++ header_field (codes ",\"places\":") s.places
    ++ previous_field origin.previous
    ++ 44 ∷ version_word version

-- The lines, followed by their mark if the log has marks.
abbrev pub lines_and_mark : Version → List (List ℕ) → List (List ℕ)
lines_and_mark One lines = lines
lines_and_mark Two lines = lines ++ mark_of (blocks lines) ∷ []

-- The first batch of a log whose hub opened for the first time.
unfoldable pub header : Version → Mode → HubSettings → List ℕ
header version mode s =
    at_rest (lines_and_mark version (raw_of (header_line version mode s first_origin) ∷ []))

-- The lines of the books of these journals.
abbrev pub lines_of_books : HubSettings → List History → List (List ℕ)
lines_of_books s journals = recovered_lines (books_text s (all_events journals))

-- What the first line says of a hub that opened from these journals.
abbrev pub origin_from : HubSettings → List History → Option Digest → Origin
origin_from s journals previous =
    record { books = Some (length (lines_of_books s journals)); previous = previous }

-- The first batch of a log whose hub opened from these journals: the settings line, with the last
-- digest of the log before if there is one, and a line for each event of the books.
unfoldable pub header_from : Version → Mode → HubSettings → List History → Option Digest → List ℕ
header_from version mode s journals previous =
    let line =
    raw_of (header_line version mode s (origin_from s journals previous)) in
    at_rest (lines_and_mark version (line ∷ lines_of_books s journals))

-- A hub of these settings can open from the journals, and a log can have their books: each event
-- can be written, and there are fewer than 2^63 lines.
pub record CanBeginFrom (s : HubSettings) (journals : List History) : Type 0 where
  pub can : CanOpenFrom s journals
  pub books : AreBooksOf s (all_events journals)
  pub few : length (lines_of_books s journals) < 2 ^ 63

-- The first lines of a log of a hub that can have these settings, and opened for the first time or
-- from journals. The digest in them, if there is one, is 64 lower-case hexadecimal digits.
abbrev pub AreFirstLines : Version → Mode → HubSettings → List ℕ → Type 0
AreFirstLines version mode s first =
    (AreOfAHub s × (first ≡ header version mode s))
    ⊎ ((journals : List History) × (previous : Option Digest) × CanBeginFrom s journals
    × IfSome previous IsHexadecimal × (first ≡ header_from version mode s journals previous))

-- Logs of one version that begin alike are of hubs with the same mode and settings.
abbrev pub HeadersTellTheirSettings : Type 0
HeadersTellTheirSettings =
    (version : Version) (mode other : Mode) (s t : HubSettings) → AreOfAHub s → AreOfAHub t →
    header version mode s ≡ header version other t → (mode ≡ other) × (s ≡ t)
