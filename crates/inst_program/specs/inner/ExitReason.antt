-- How each task is done or ends. The exit statuses are a choice of this hub.
use Rattle.std.specs.Prelude.{◌≡◌, ◌≢◌, ◌⊎◌, ℕ, List, Option, Some, None, IfSome, IsTrue}
use Rattle.clap.specs.Words.{kind_of}
use Rattle.clap.specs.declared.error.kind.ErrorKind.{ErrorKind}
use Rattle.clap.specs.declared.error.kind.ErrorKind.TheVariants.{DisplayHelp, DisplayVersion}
use Rattle.inst_base.specs.declared.fault.Fault.TheVariants.{BadSettings, Memory, WriteFault}
use Rattle.inst_settings.specs.Settings.{HubSettings}
use Rattle.inst_lines.specs.Answering.{hub_answerer, new_past}
use Rattle.inst_lines.specs.Check.{TellsPart}
use Rattle.inst_lines.specs.Session.{FailsAfter}
use Rattle.inst_lines.specs.declared.mode.Mode.{Mode}
use Rattle.inst_drill.specs.declared.error.DrillError.{DrillError}
use Rattle.inst_drill.specs.declared.error.DrillError.TheVariants as drill
use Rattle.inst_options.specs.AnyFault.{IsNamed}
use Rattle.inst_options.specs.LogFault.{status_of_log}
use Rattle.inst_options.specs.declared.any_fault.AnyFault.{AnyFault}
use Rattle.inst_options.specs.declared.error.WordsError.{WordsError}
use Rattle.inst_options.specs.declared.error.WordsError.TheVariants as error
use Rattle.inst_options.specs.declared.invocation.LogOptions.{LogOptions}
use Rattle.inst_program.specs.declared.exit_reason.ExitReason.{ExitReason}
use Rattle.inst_program.specs.declared.exit_reason.ExitReason.TheVariants as ending
use Rattle.inst_program.specs.declared.logs.LogsError.{LogsError}
use Rattle.inst_program.specs.declared.logs.LogsError.TheVariants as opening
use Rattle.inst_logged.specs.Streams.{Streams}
use Rattle.inst_program.specs.Files.{Change, Files, IsAsItWas, OthersStay, Stay, change_of}
use Rattle.inst_program.specs.Keeping.{IsUntaken, KeepsAFront, KeepsLines, KeptRun, kept_run}
use Rattle.inst_program.specs.Program.{status_of, AnswersInput, Failed, Refused}

-- The exit status for words that ask for no task: 0 if they ask for help or the version.
abbrev pub status_of_kind : ErrorKind → ℕ
status_of_kind DisplayHelp = 0
status_of_kind DisplayVersion = 0
status_of_kind _ = 2

-- The exit status for an error of the words.
abbrev pub status_of_error : WordsError → ℕ
status_of_error (error.Words e) = status_of_kind (kind_of e)
status_of_error (error.Option bad) = 2
status_of_error (error.Fault fault) = status_of fault

-- The exit status for this error; also 3 if a text that was asked for can't be written.
abbrev pub IsErrorStatus : WordsError → ℕ → Type 0
IsErrorStatus e status = (status ≡ status_of_error e) ⊎ ((status_of_error e ≡ 0) × (status ≡ 3))

-- The reason to end for an error of opening a log.
abbrev pub ending_of_error : LogsError → ExitReason
ending_of_error opening.Memory = ending.Fault Memory
ending_of_error (opening.Log fault) = ending.Log fault

-- The reason to end for an error of a drill.
abbrev pub ending_of_drill : DrillError → ExitReason
ending_of_drill (drill.Fault fault) = ending.Fault fault
ending_of_drill drill.NoInterleaving = ending.NoInterleaving

-- The exit status for a reason to end.
abbrev pub status_of_ending : ExitReason → ℕ
status_of_ending (ending.Fault fault) = status_of fault
status_of_ending (ending.Log fault) = status_of_log fault
status_of_ending ending.Unexplained = 2
status_of_ending ending.NoInterleaving = 3
status_of_ending ending.ScriptNotEmpty = 2
status_of_ending (ending.Unfit option) = 2
status_of_ending ending.PendingTransfer = 2
status_of_ending ending.BrokenChain = 2

-- The end of an explanation: no fault has this name and nothing was written, or one has it and the
-- writer failed.
abbrev pub IsUnexplained : List ℕ → Type 0 → ExitReason → Type 0
IsUnexplained word unwritten (ending.Fault fault) =
    (fault ≡ WriteFault) × ((named : AnyFault) × IsNamed word named)
IsUnexplained word unwritten (ending.Log fault) = ⊥
IsUnexplained word unwritten ending.Unexplained =
    unwritten × ((fault : AnyFault) → ¬ (IsNamed word fault))
IsUnexplained word unwritten ending.NoInterleaving = ⊥
IsUnexplained word unwritten ending.ScriptNotEmpty = ⊥
IsUnexplained word unwritten (ending.Unfit option) = ⊥
IsUnexplained word unwritten ending.PendingTransfer = ⊥
IsUnexplained word unwritten ending.BrokenChain = ⊥

-- A run with a log ends with this exit status: the log was refused and nothing done, or some lines
-- were answered. `in_use`: another program may have the log open.
pub record IsUnkept (run : KeptRun) (t : Streams) (mixes in_use faith : Type 0) (c : Change)
    (status : ℕ) : Type 0 where
  pub refused : status ≡ 2 →
      t.unread × t.unwritten × (faith → IsAsItWas c) × (in_use ⊎ (faith → IsUntaken run c.was))
  pub front : KeepsAFront run t mixes faith c

-- The input was answered by a hub of these settings, with this log.
abbrev pub AreLinesAnswered : Mode → HubSettings → Option LogOptions → Streams → Files → Files →
    Type 0
AreLinesAnswered mode s None t old new = AnswersInput mode s t × Stay old new
AreLinesAnswered mode s (Some log) t old new =
    KeepsLines (kept_run mode s log) t (IsTrue new.is_clean) (change_of old new log.path.now)
    × OthersStay old new log.path.now

-- The input wasn't answered, and the program ends for this reason.
abbrev pub IsUnanswered : Mode → HubSettings → Option LogOptions → Streams → Files → Files →
    ExitReason → Type 0
IsUnanswered mode s None t old new (ending.Fault fault) =
    FailsAfter (hub_answerer mode) (new_past s) t.held t.held' t.left t.left' fault × Stay old new
IsUnanswered mode s None t old new (ending.Log fault) = ⊥
IsUnanswered mode s None t old new ending.Unexplained = ⊥
IsUnanswered mode s None t old new ending.NoInterleaving = ⊥
IsUnanswered mode s None t old new ending.ScriptNotEmpty = ⊥
IsUnanswered mode s None t old new (ending.Unfit option) = ⊥
IsUnanswered mode s None t old new ending.PendingTransfer = ⊥
IsUnanswered mode s None t old new ending.BrokenChain = ⊥
IsUnanswered mode s (Some log) t old new e =
    IsUnkept (kept_run mode s log) t old.mixes (new.in_use log.path.now) (IsTrue new.is_clean)
    (change_of old new log.path.now) (status_of_ending e)
    × OthersStay old new log.path.now

-- A check ended for this reason; a prefix of the report was written.
abbrev pub IsUnchecked : HubSettings → Option (List ℕ) → Option (List ℕ) → Option (List ℕ) →
    ExitReason → Type 0
IsUnchecked s left held held' (ending.Fault fault) =
    (fault ≢ BadSettings) × IfSome left (λ bytes. TellsPart s bytes held held')
IsUnchecked s left held held' (ending.Log fault) = ⊥
IsUnchecked s left held held' ending.Unexplained = ⊥
IsUnchecked s left held held' ending.NoInterleaving = ⊥
IsUnchecked s left held held' ending.ScriptNotEmpty = ⊥
IsUnchecked s left held held' (ending.Unfit option) = ⊥
IsUnchecked s left held held' ending.PendingTransfer = ⊥
IsUnchecked s left held held' ending.BrokenChain = ⊥

-- The task wasn't done, and this is the exit status.
pub record IsUndone (words : List (List ℕ)) (t : Streams) (old new : Files) (status : ℕ) : Type 0
  where
    pub refused : status ≡ 2 → Refused words t old new
    pub failed : status ≡ 3 → Failed words t old new
