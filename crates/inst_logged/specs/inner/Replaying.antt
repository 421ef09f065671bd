-- The lines of a log, answered again.
use Rattle.std.specs.Prelude.{◌≡◌, ◌⊎◌, ◌<◌, ◌≤◌, ⊤, ℕ, List, [], length, Option, Result, IfErr}
use Rattle.std.specs.Prelude.{OnErr, OnOk}
use Rattle.sqlite_disk.specs.declared.Disk.{Ghosts}
use Rattle.inst_agenda.specs.declared.runner.Runner.{Runner}
use Rattle.inst_lines.specs.declared.mode.Mode.{Mode}
use Rattle.inst_lines.specs.Answering.{HubPast, IsRunnerAt}
use Rattle.inst_log.specs.Opening.{lines_after_settings}
use Rattle.inst_log.specs.Serving.{Tells, SaysOn}
use Rattle.inst_log.specs.inner.Serving.{TellsFront}
use Rattle.inst_log.specs.declared.error.LogError.TheVariants.{Told}
use Rattle.inst_log.specs.declared.recorder.Recorder.{Recorder}
use Rattle.inst_chain.specs.Chain.{kept_said, said}
use Rattle.inst_logged.specs.Answering.{SaysLines, past_after, told_count}
use Rattle.inst_logged.specs.Logged.{AreReplies, unsent_replies_at}
use Rattle.inst_logged.specs.Refused.{IsRefused}
use Rattle.inst_log.specs.Disks.{HasKeptFaith, IsOnlyRead}
use Rattle.inst_logged.specs.inner.Failing.{FailsBy}
use Rattle.inst_logged.specs.declared.error.LoggedError.{LoggedError}
use Rattle.inst_logged.specs.declared.error.LoggedError.TheVariants.{Log}
use Rattle.inst_logged.specs.declared.line_answers.LineAnswers.{LineAnswers}

-- These are enough lines of a log, and the replies owed for them were written.
pub record IsReplayed (mode : Mode) (told : Option ℕ) (old new : Runner) (lines : List (List ℕ))
    (before after : Option (List ℕ)) : Type 0 where
  pub enough : told_count told (said lines) ≤ length (said lines)
  pub state : (past : HubPast) → IsRunnerAt mode past old
      → IsRunnerAt mode (past_after mode past lines) new
  pub tells : (past : HubPast) → IsRunnerAt mode past old →
      Tells (AreReplies (unsent_replies_at mode past (said lines) (told_count told (said lines))))
      [] before after
  -- The next replies are those owed after these lines.
  pub on : (past : HubPast) → IsRunnerAt mode past old →
      SaysOn (AreReplies (unsent_replies_at mode past (said lines) (told_count told (said lines))))
      [] (SaysLines mode new)

-- The recorder answers the same lines as before, and the disk of its log was only read.
pub record IsOnlyAnswering {D : Type 0} (disks : Ghosts D) (old new : Recorder D LineAnswers) : Type
    0 where
  pub mode : new.answers.mode ≡ old.answers.mode
  pub end : new.log.end ≡ old.log.end
  pub read : IsOnlyRead disks old.log.disk new.log.disk

-- The lines of a log after its first ones were answered again, or an error occurred.
--
-- `part`: the bytes written are a prefix of those owed.
--
-- `refused`: the log has fewer lines than `told`, and nothing was written.
--
-- `begun`: after an error nothing was written, or the log has enough lines.
pub record Replays {D A : Type 0} (disks : Ghosts D) (header : List ℕ) (told : Option ℕ)
    (old new : Recorder D LineAnswers) (held held' : Option (List ℕ)) (unwritten : Type 0)
    (result : Result A LoggedError) : Type 0 where
  pub replayed : OnOk result (HasKeptFaith disks new.log.disk
      → IsReplayed old.answers.mode told old.answers.runner new.answers.runner
      (lines_after_settings header (disks.seen old.log.disk)) held held')
  pub part : HasKeptFaith disks new.log.disk → (past : HubPast) →
      IsRunnerAt old.answers.mode past old.answers.runner
      → TellsFront
      (AreReplies
      (unsent_replies_at old.answers.mode past (kept_said header (disks.seen old.log.disk))
      (told_count told (kept_said header (disks.seen old.log.disk))))) [] held held'
  pub refused : IfErr result (λ error. IsRefused error →
      (error ≡ Log Told) × unwritten × (HasKeptFaith disks new.log.disk
      → length (kept_said header (disks.seen old.log.disk))
      < told_count told (kept_said header (disks.seen old.log.disk))))
  pub begun : OnErr result (HasKeptFaith disks new.log.disk → unwritten
      ⊎ (told_count told (kept_said header (disks.seen old.log.disk))
      ≤ length (kept_said header (disks.seen old.log.disk))))
  pub failure : FailsBy disks old.log.disk new.log.disk ⊥ ⊤ result
