-- What the program leaves, by its exit status. `t` is its reader and writer, `old` and `new` are
-- the files, before and after. The exit statuses are a choice of this hub.
use Rattle.std.specs.Prelude.{◌≡◌, ◌≢◌, ◌⊎◌, ◌++◌, ◌∷◌, [], ℕ, List, Option, Some, IfSome, IsTrue}
use Rattle.std.specs.Prelude.{codes}
use Rattle.std.specs.Fmt.{decimal}
use Rattle.std.specs.Io.KnownBytes.{Appends, IsAtEnd}
use Rattle.clap.specs.Words.{Row, subcommand_of}
use Rattle.inst_base.specs.declared.fault.Fault.{Fault}
use Rattle.inst_base.specs.declared.fault.Fault.TheVariants.{BadSettings}
use Rattle.inst_settings.specs.Settings.{HubSettings}
use Rattle.inst_settings.specs.Lawful.{AreOfAHub, IsSettings}
use Rattle.inst_lines.specs.Answers.{output}
use Rattle.inst_lines.specs.Answering.{hub_answerer, new_past}
use Rattle.inst_lines.specs.Check.{TellsPart, check_report}
use Rattle.inst_lines.specs.Headline.{LinesKeepTheHeadline}
use Rattle.inst_lines.specs.Lines.{lines_of}
use Rattle.inst_lines.specs.Session.{FailsAfter}
use Rattle.inst_lines.specs.declared.mode.Mode.{Mode}
use Rattle.inst_lines.specs.declared.mode.Mode.TheVariants as mode
use Rattle.inst_drill.specs.declared.explaining.DrillResult.{DrillResult}
use Rattle.inst_drill.specs.Plan.{MayDrill}
use Rattle.inst_drill.specs.Drilled.{HasDrilledAll}
use Rattle.inst_options.specs.AnyFault.{IsNamed, any_fault_name, any_fault_number}
use Rattle.inst_options.specs.declared.any_fault.AnyFault.{AnyFault}
use Rattle.inst_options.specs.CommandLine.{command_line}
use Rattle.inst_options.specs.Options.{HasAHub, Task}
use Rattle.inst_options.specs.Options.Task.{Run, Play, Drill, Check}
use Rattle.inst_options.specs.Asking.{AreChosen, AreWhole, AreWrong, AskForHelp, AskForTheLog}
use Rattle.inst_options.specs.Asking.{AskForTheAudit, AskForTheNext, AskToExplain, NameABadLog}
use Rattle.inst_options.specs.Asking.{NameNoLog}
use Rattle.inst_options.specs.Asking.{NameTheLog, NameTheScript}
use Rattle.inst_logged.specs.Streams.{Streams}
use Rattle.inst_program.specs.Files.{Files, IfKept, OthersStay, Stay, change_of}
use Rattle.inst_program.specs.Auditing.{HasAuditedAll}
use Rattle.inst_program.specs.Script.{CannotTakeTheScript, HasScript, SparesTheScript}
use Rattle.inst_program.specs.Keeping.{Carries, IsGoodLog, IsUncarried, IsUntaken, KeepsAFront}
use Rattle.inst_program.specs.Keeping.{KeepsLines, KeptRun, NextAsked, SparesBoth, TellsOfTheLog}

-- The exit status for a fault.
abbrev pub status_of : Fault → ℕ
status_of BadSettings = 2
status_of _ = 3

-- A hub of these settings can do the task. It can always answer lines.
abbrev pub MayDo : HubSettings → Task → Type 0
MayDo s Run = Unit {0}
MayDo s Play = Unit {0}
MayDo s (Drill transfers openings) = MayDrill s transfers openings
MayDo s Check = Unit {0}

-- The words are a whole command line and ask for a drill.
pub record AskForADrill (words : List (List ℕ)) : Type 0 where
  pub settings : HubSettings
  pub lawful : IsSettings settings
  pub whole : AreWhole words
  pub transfers : ℕ
  pub openings : ℕ
  pub chosen : AreChosen words (Drill transfers openings) settings
  pub script : Option (List ℕ)
  pub named : NameTheScript words script

-- The words are a whole command line for a hub, and no hub can have the settings that they choose
-- and do the task.
pub record AreRefused (words : List (List ℕ)) : Type 0 where
  pub whole : AreWhole words
  pub hub : (name : List ℕ) (rows : List Row) →
      subcommand_of command_line words ≡ Some (name, rows) → HasAHub name
  pub none : (task : Task) (s : HubSettings) → AreChosen words task s →
      ¬ (AreOfAHub s × MayDo s task)

-- The task that answers lines in this mode.
abbrev pub task_of : Mode → Task
task_of mode.Run = Run
task_of mode.Play = Play

-- A hub of these settings answered the whole input and wrote exactly the replies. `headline`: the
-- run of these lines keeps the headline.
pub record AnswersInput (mode : Mode) (settings : HubSettings) (t : Streams) : Type 0 where
  pub at_end : IsAtEnd t.left'
  pub answered : IfSome t.left (λ bytes.
      Appends t.held t.held' (output (hub_answerer mode) (new_past settings) (lines_of bytes)))
  pub headline : IfSome t.left (λ bytes.
      LinesKeepTheHeadline (hub_answerer mode) settings (lines_of bytes))

-- A hub of the settings in the words answered the whole input as the words ask for, and wrote
-- exactly the replies. The words name no log.
pub record ServesLines (words : List (List ℕ)) (t : Streams) : Type 0 where
  pub mode : Mode
  pub settings : HubSettings
  pub lawful : IsSettings settings
  pub whole : AreWhole words
  pub chosen : AreChosen words (task_of mode) settings
  pub unkept : NameNoLog words
  pub answers : AnswersInput mode settings t

-- Answering lines without a log was ended by this fault.
pub record Fails (words : List (List ℕ)) (t : Streams) (fault : Fault) : Type 0 where
  pub mode : Mode
  pub settings : HubSettings
  pub lawful : IsSettings settings
  pub whole : AreWhole words
  pub chosen : AreChosen words (task_of mode) settings
  pub unkept : NameNoLog words
  pub after : FailsAfter (hub_answerer mode) (new_past settings) t.held t.held' t.left t.left' fault

-- The whole input was checked, and exactly the report on lines that no hub of these settings takes
-- was written.
abbrev pub Checks : HubSettings → Streams → Type 0
Checks s t =
    IsAtEnd t.left' × IfSome t.left (λ bytes. Appends t.held t.held' (check_report s bytes))

-- The input was checked for the settings in the words.
pub record HasChecked (words : List (List ℕ)) (t : Streams) : Type 0 where
  pub settings : HubSettings
  pub lawful : IsSettings settings
  pub whole : AreWhole words
  pub chosen : AreChosen words Check settings
  pub checks : Checks settings t

-- The check ended early, and a prefix of the report was written.
pub record FailsToCheck (words : List (List ℕ)) (t : Streams) : Type 0 where
  pub settings : HubSettings
  pub lawful : IsSettings settings
  pub whole : AreWhole words
  pub chosen : AreChosen words Check settings
  pub part : IfSome t.left (λ bytes. TellsPart settings bytes t.held t.held')

-- Answering or checking lines was ended by this fault.
abbrev pub FailsAtLines : List (List ℕ) → Streams → Fault → Type 0
FailsAtLines words t fault = Fails words t fault ⊎ ((fault ≢ BadSettings) × FailsToCheck words t)

-- A hub of these settings was drilled; a run in one thread explains each opening. Exactly the
-- reports were written, and the script of the first run to the named file, if any.
abbrev pub Drills : HubSettings → ℕ → Option (List ℕ) → Option (List ℕ) → Option (List ℕ) → Files →
    Files → Type 0
Drills s openings script held held' old new =
    (left : DrillResult) × HasDrilledAll s openings held held' left
    × HasScript s left.steps.items script old new

-- The drill that the words ask for was done.
abbrev pub HasDrilled : List (List ℕ) → Streams → Files → Files → Type 0
HasDrilled words t old new =
    (asked : AskForADrill words)
    × Drills asked.settings asked.openings asked.script t.held t.held' old new

-- The drill that the words ask for wasn't done.
abbrev pub FailsToDrill : List (List ℕ) → Files → Files → Type 0
FailsToDrill words old new = (asked : AskForADrill words) × SparesTheScript asked.script old new

-- The words ask for this run with a log.
pub record AskForAKeptRun (words : List (List ℕ)) (run : KeptRun) : Type 0 where
  pub lawful : IsSettings run.settings
  pub whole : AreWhole words
  pub chosen : AreChosen words (task_of run.mode) run.settings
  pub log : NameTheLog words run.name run.told run.resume run.digest

-- The run with a log answered the whole input.
pub record HasKept (words : List (List ℕ)) (t : Streams) (old new : Files) : Type 0 where
  pub run : KeptRun
  pub asked : AskForAKeptRun words run
  pub keeps : KeepsLines run t (IsTrue new.is_clean) (change_of old new run.name)
  pub others : OthersStay old new run.name

-- The run with a log answered a part of the input, or did nothing.
pub record FailsToKeep (words : List (List ℕ)) (t : Streams) (old new : Files) : Type 0 where
  pub run : KeptRun
  pub asked : AskForAKeptRun words run
  pub front : KeepsAFront run t old.mixes (IsTrue new.is_clean) (change_of old new run.name)
  pub others : OthersStay old new run.name

-- The words ask for the contents of a log.
abbrev pub AskForALog : List (List ℕ) → Type 0
AskForALog words = (name : List ℕ) × AskForTheLog words name

-- The contents of the log were written.
abbrev pub HasShown : List (List ℕ) → Streams → Files → Files → Type 0
HasShown words t old new =
    (name : List ℕ) × AskForTheLog words name
    × IfKept new (TellsOfTheLog (old.bytes name) t.held t.held')

-- The words ask for a log with the books of another.
abbrev pub AskForNext : List (List ℕ) → NextAsked → Type 0
AskForNext words asked =
    AskForTheNext words asked.from asked.to asked.digest asked.positions asked.changes

-- The words ask for a log with the books of another, and it was made.
abbrev pub HasCarried : List (List ℕ) → Files → Files → Type 0
HasCarried words old new =
    (asked : NextAsked) × AskForNext words asked × Carries asked old new

-- The words ask for a log with the books of another; both logs are safe.
abbrev pub HasSparedBoth : List (List ℕ) → Files → Files → Type 0
HasSparedBoth words old new =
    (asked : NextAsked) × AskForNext words asked × SparesBoth asked.from asked.to old new

-- The words ask for an audit of logs.
abbrev pub AskForAnAudit : List (List ℕ) → Type 0
AskForAnAudit words = (names : List (List ℕ)) × AskForTheAudit words names

-- The words ask for an audit of logs, and its lines were written: each log follows the one before.
abbrev pub HasAudited : List (List ℕ) → Streams → Files → Files → Type 0
HasAudited words t old new =
    (names : List (List ℕ)) × AskForTheAudit words names
    × IfKept new (HasAuditedAll old.bytes names t.held t.held')

-- The text of an explanation: a fault's number and name, its usual meaning, and what to do.
abbrev pub explanation_text : ℕ → List ℕ → List ℕ → List ℕ → List ℕ
explanation_text number name meaning advice =
    decimal number ++ (codes " " ++ (name ++ (10 ∷ codes "It usually means: " ++ (meaning
    ++ (10 ∷ codes "What to do: " ++ (advice ++ 10 ∷ []))))))

-- The explanation of a fault that the word names was written.
abbrev pub Explains : List ℕ → Option (List ℕ) → Option (List ℕ) → Type 0
Explains word held held' =
    (fault : AnyFault) × (meaning : List ℕ) × (advice : List ℕ) × IsNamed word fault
    × Appends held held'
    (explanation_text (any_fault_number fault) (any_fault_name fault) meaning advice)

-- The words ask for the explanation of a fault that exists.
abbrev pub AskForAnExplanation : List (List ℕ) → Type 0
AskForAnExplanation words =
    (word : List ℕ) × AskToExplain words word × ((fault : AnyFault) × IsNamed word fault)

-- The words ask for an explanation, which was written.
abbrev pub HasExplained : List (List ℕ) → Streams → Type 0
HasExplained words t = (word : List ℕ) × AskToExplain words word × Explains word t.held t.held'

-- The words ask for the explanation of a fault that doesn't exist.
abbrev pub NameNoFault : List (List ℕ) → Type 0
NameNoFault words =
    (word : List ℕ) × AskToExplain words word × ((fault : AnyFault) → ¬ (IsNamed word fault))

-- What the words ask for was done. No other file changed.
pub data Done (words : List (List ℕ)) (t : Streams) (old new : Files) : Type 0 where
  Answered : ServesLines words t → Stay old new → Done words t old new
  Kept : HasKept words t old new → Done words t old new
  Checked : HasChecked words t → Stay old new → Done words t old new
  Drilled : t.unread → HasDrilled words t old new → Done words t old new
  Shown : t.unread → HasShown words t old new → Stay old new → Done words t old new
  Carried : t.unread → t.unwritten → HasCarried words old new → Done words t old new
  Audited : t.unread → HasAudited words t old new → Stay old new → Done words t old new
  Explained : t.unread → HasExplained words t → Stay old new → Done words t old new
  Helped : t.unread → AskForHelp words → Stay old new → Done words t old new

-- Why it was refused: wrong words; settings that no hub can have or do the task with; options that
-- describe a log badly; a fault that doesn't exist; a log that is in use or that the run doesn't
-- take; a log that can't be shown; a script file that isn't empty or in use. All files are
-- unchanged; `Uncarried` leaves its two logs safe. Why an audit is refused is only tested.
pub data Refusal (words : List (List ℕ)) (old new : Files) : Type 0 where
  Wrong : AreWrong words → Stay old new → Refusal words old new
  Unfit : AreRefused words → Stay old new → Refusal words old new
  BadLog : NameABadLog words → Stay old new → Refusal words old new
  Unnamed : NameNoFault words → Stay old new → Refusal words old new
  InUse : (run : KeptRun) → AskForAKeptRun words run → new.in_use run.name → Stay old new →
      Refusal words old new
  Untaken : (run : KeptRun) → AskForAKeptRun words run →
      IfKept new (IsUntaken run (old.bytes run.name)) → Stay old new → Refusal words old new
  Unshown : (name : List ℕ) → AskForTheLog words name →
      IfKept new (¬ (IsGoodLog (old.bytes name))) → Stay old new → Refusal words old new
  Unscripted : (asked : AskForADrill words) (name : List ℕ) → asked.script ≡ Some name →
      CannotTakeTheScript name old new → Stay old new → Refusal words old new
  Unaudited : AskForAnAudit words → Stay old new → Refusal words old new
  Uncarried : (asked : NextAsked) → AskForNext words asked → IsUncarried asked old new
      → SparesBoth asked.from asked.to old new → Refusal words old new

-- Nothing was read or written.
pub record Refused (words : List (List ℕ)) (t : Streams) (old new : Files) : Type 0 where
  pub unread : t.unread
  pub unwritten : t.unwritten
  pub why : Refusal words old new

-- It failed: before it began, or during the task named here.
pub data Failed (words : List (List ℕ)) (t : Streams) (old new : Files) : Type 0 where
  Unbegun : t.unread → t.unwritten → Stay old new → Failed words t old new
  AtLines : (fault : Fault) → FailsAtLines words t fault → Stay old new → Failed words t old new
  Keeping : FailsToKeep words t old new → Failed words t old new
  Drilling : t.unread → FailsToDrill words old new → Failed words t old new
  Explaining : t.unread → AskForAnExplanation words → Stay old new → Failed words t old new
  Showing : t.unread → AskForALog words → Stay old new → Failed words t old new
  Carrying : t.unread → t.unwritten → HasSparedBoth words old new → Failed words t old new
  Auditing : t.unread → AskForAnAudit words → Stay old new → Failed words t old new
  Helping : t.unread → AskForHelp words → Stay old new → Failed words t old new

-- The program ends with this exit status.
pub record Ends (words : List (List ℕ)) (t : Streams) (old new : Files) (status : ℕ) : Type 0 where
  pub known : (status ≡ 0) ⊎ ((status ≡ 2) ⊎ (status ≡ 3))
  pub done : status ≡ 0 → Done words t old new
  pub refused : status ≡ 2 → Refused words t old new
  pub failed : status ≡ 3 → Failed words t old new
