-- The books after the first line of a log.
use Rattle.std.specs.Prelude.{◌≡◌, List, ℕ, ◌∷◌, ◌++◌, length, Option, None, Some, option_map}
use Rattle.std.specs.Prelude.{Result}
use Rattle.inst_settings.specs.Settings.{HubSettings}
use Rattle.inst_journal.specs.declared.event.Event.{Event}
use Rattle.inst_journal.specs.History.{History}
use Rattle.inst_lines.specs.declared.mode.Mode.{Mode}
use Rattle.inst_log.specs.Layout.{recovered_lines, AreWholeLines}
use Rattle.inst_log.specs.Opening.{Begins}
use Rattle.inst_books.specs.Books.{all_events}
use Rattle.inst_logged.specs.declared.version.Version.{Version}
use Rattle.inst_logged.specs.declared.error.LoggedError.{LoggedError}
use Rattle.inst_logged.specs.Header.{lines_and_mark, header_from, lines_of_books, CanBeginFrom}
use Rattle.inst_logged.specs.Header.{first_origin, origin_from}
use Rattle.inst_chain.specs.Chain.{IsHexadecimal}
use Rattle.inst_chain.specs.declared.digest.Digest.{Digest}
use Rattle.inst_logged.specs.LogHeader.{IsHeaderLine}
use Rattle.inst_logged.specs.Finding.{Unrefused}

-- The text is whole lines: a first one, the books of these journals, their mark if the log has
-- marks, and others.
pub record HasBooks (version : Version) (s : HubSettings) (journals : List History) (text : List ℕ)
    : Type 0 where
  pub line : List ℕ
  pub rest : List (List ℕ)
  pub whole : AreWholeLines text
  pub lines : recovered_lines text
      ≡ lines_and_mark version (line ∷ lines_of_books s journals) ++ rest

-- The books after the first line are found: none for a hub that opened for the first time, else
-- some with the same events and digest.
pub record FindsBooks {V : Type 0} (books_of : V → List (List Event) × Option Digest)
    (version : Version) (mode : Mode) (s : HubSettings) (first file : List ℕ)
    (result : Result (Option V) LoggedError) : Type 0 where
  pub none : IsHeaderLine version mode s first_origin first
      → Unrefused (λ found. found ≡ None) result
  pub some : (journals : List History) (previous : Option Digest) → CanBeginFrom s journals →
      IsHeaderLine version mode s (origin_from s journals previous) first
      → Begins (header_from version mode s journals previous) file →
      Unrefused (λ found.
      option_map books_of found ≡ Some (all_events journals, previous)) result
