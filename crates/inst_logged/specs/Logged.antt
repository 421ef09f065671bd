-- What a run with a log has written and leaves on the disk, and what a crash may leave of it. A
-- choice of this hub.
use Rattle.std.specs.Prelude.{◌≡◌, ◌⊎◌, ℕ, List, [], ◌++◌, map, length, take, drop, Option, IfSome}
use Rattle.std.specs.Io.KnownBytes.{Appends, Consumes, IsAtEnd}
use Rattle.inst_lines.specs.declared.mode.Mode.{Mode}
use Rattle.inst_lines.specs.Lines.{lines_of, whole_lines_of}
use Rattle.inst_settings.specs.Settings.{HubSettings}
use Rattle.inst_journal.specs.History.{History}
use Rattle.inst_world.specs.NextOpening.{CanOpenFrom}
use Rattle.inst_world.specs.Headline.{KeepsTheHeadline}
use Rattle.inst_lines.specs.Answering.{HubPast, new_past}
use Rattle.inst_lines.specs.Headline.{run_through}
use Rattle.inst_log.specs.Layout.{IsBatch}
use Rattle.inst_log.specs.Opening.{lines_after_settings, Begins}
use Rattle.inst_log.specs.Serving.{Replies, TellsKept}
use Rattle.inst_chain.specs.Chain.{kept_said, IsHexadecimal}
use Rattle.inst_chain.specs.declared.digest.Digest.{Digest}
use Rattle.inst_chain.specs.declared.marker.Marker.{Marker}
use Rattle.inst_logged.specs.declared.version.Version.{Version}
use Rattle.inst_logged.specs.Marking.{BeginsWithMarker}
use Rattle.inst_logged.specs.Header.{header, header_from}
use Rattle.inst_logged.specs.Answering.{replies_at, past_after, opened_from, told_count}
use Rattle.inst_logged.specs.LineAnswers.{HasOpened}
use Rattle.inst_logged.specs.Input.{logged_line}
use Rattle.inst_logged.specs.Intake.{line_part}
use Rattle.inst_logged.specs.declared.line_answers.LineAnswers.{LineAnswers}
use Rattle.inst_logged.specs.declared.intake.Intake.{Intake}

-- The replies to `first ++ lines`, without those to the first `told` of `first`, by a hub with this
-- past before them.
abbrev pub unsent_replies_at : Mode → HubPast → List (List ℕ) → ℕ → Replies
unsent_replies_at mode past first told lines =
    drop (length (replies_at mode past (take told first))) (replies_at mode past (first ++ lines))

-- Exactly these replies.
abbrev pub AreReplies : Replies → Replies → Type 0
AreReplies these replies = (lines : List (List ℕ)) → replies lines ≡ these lines

-- These can be the first lines of a log of this version, the marker makes its next mark, and no
-- further line was read.
pub record IsUnbegun (version : Version) (header : List ℕ) (marker : Marker) (intake : Intake) :
    Type 0 where
  pub batch : IsBatch header
  pub begins : BeginsWithMarker version header marker
  pub nothing : line_part intake ≡ []

-- A hub of these settings began for the first time, or from journals that it can open from, and
-- these are the first lines of its log.
abbrev pub HasBegun : Version → Mode → HubSettings → List ℕ → LineAnswers → Type 0
HasBegun version mode s first answers =
    (HasOpened mode (new_past s) answers × (first ≡ header version mode s))
    ⊎ ((journals : List History) × (previous : Option Digest) × CanOpenFrom s journals
    × IfSome previous IsHexadecimal × HasOpened mode (opened_from s journals) answers
    × (first ≡ header_from version mode s journals previous))

-- The lines of these bytes: those that end there, or all of them at the end of the input.
abbrev pub AreLinesOf : List ℕ → Option (List ℕ) → List (List ℕ) → Type 0
AreLinesOf bytes left lines =
    (lines ≡ whole_lines_of bytes) ⊎ (IsAtEnd left × (lines ≡ lines_of bytes))

-- The log has gained all lines of the input, and the replies owed were written. Marks aren't
-- counted as lines. `headline`: the run of all lines of the log keeps the headline.
pub record HasLogged (mode : Mode) (past : HubPast) (header : List ℕ) (told : Option ℕ)
    (old new : List ℕ) (left left' before after : Option (List ℕ)) : Type 0 where
  pub bytes : List ℕ
  pub consumes : Consumes left left' bytes
  pub at_end : IsAtEnd left'
  pub begins : Begins header new
  pub lines : kept_said header new ≡ kept_said header old ++ map logged_line (lines_of bytes)
  pub replies : Appends before after
      (unsent_replies_at mode past (kept_said header old) (told_count told (kept_said header old))
      (map logged_line (lines_of bytes)))
  pub headline : KeepsTheHeadline past.settings
      (run_through (past_after mode past (lines_after_settings header new)))

-- Each file that a crash may leave has the log's lines from before and then a prefix of those read,
-- and the bytes written are a prefix of the replies owed for these.
pub record SurvivesACrash (mode : Mode) (past : HubPast) (header : List ℕ) (told : Option ℕ)
    (old : List ℕ) (may_leave : List ℕ → Type 0)
    (left left' before after : Option (List ℕ)) : Type 0 where
  pub bytes : List ℕ
  pub consumes : Consumes left left' bytes
  pub lines : List (List ℕ)
  pub lines_are : AreLinesOf bytes left' lines
  pub kept : TellsKept (kept_said header) may_leave
      (AreReplies
      (unsent_replies_at mode past (kept_said header old)
      (told_count told (kept_said header old))))
      (kept_said header old) (map logged_line lines) before after
