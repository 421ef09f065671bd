-- One turn of a hub with a log, and all its turns.
use Rattle.std.specs.Prelude.{◌≡◌, ◌⊎◌, ◌<◌, ℕ, List, [], ◌++◌, map, length, Option}
use Rattle.std.specs.Io.KnownBytes.{Consumes, IsAtEnd}
use Rattle.inst_lines.specs.Lines.{lines_of}
use Rattle.inst_log.specs.Layout.{recovered_lines}
use Rattle.inst_log.specs.Log.{IsSettled}
use Rattle.inst_log.specs.Serving.{Replies, Tells, TellsKept, SaysOn}
use Rattle.inst_log.specs.declared.recorder.Recorder.{Recorder}
use Rattle.inst_chain.specs.Chain.{said}
use Rattle.inst_logged.specs.Answering.{SaysLines}
use Rattle.inst_logged.specs.Input.{shortened_line, logged_line}
use Rattle.inst_logged.specs.inner.Input.{lines_from, rest_from, last_line}
use Rattle.inst_logged.specs.Intake.{line_part}
use Rattle.inst_logged.specs.declared.line_answers.LineAnswers.{LineAnswers}
use Rattle.inst_logged.specs.declared.intake.Intake.{Intake}
use Rattle.inst_logged.specs.Logged.{AreLinesOf}

-- Bytes were read after a part of a line, and these are the lines that end there, in their form in
-- a log.
pub record Turned (part : List ℕ) (intake : Intake) (lines : List (List ℕ))
    (left left' : Option (List ℕ)) : Type 0 where
  pub read : List ℕ
  pub some : 0 < length read
  pub consumes : Consumes left left' read
  pub lines_are : lines ≡ map logged_line (lines_from part read)
  pub held_is : line_part intake ≡ shortened_line (rest_from part read)

-- The input is at its end, and the part of a line is the last line, unless it is empty.
pub record Ended (part : List ℕ) (lines : List (List ℕ)) (left left' : Option (List ℕ)) : Type 0
  where
    pub consumes : Consumes left left' []
    pub at_end : IsAtEnd left'
    pub lines_are : lines ≡ map logged_line (last_line part)

-- These lines were read, whether or not they were answered.
pub record Came (part : List ℕ) (lines : List (List ℕ)) (left left' : Option (List ℕ)) : Type 0
  where
    pub read : List ℕ
    pub consumes : Consumes left left' read
    pub lines_are : (lines ≡ map logged_line (lines_from part read))
        ⊎ ((read ≡ []) × (IsAtEnd left' × (lines ≡ map logged_line (last_line part))))

-- The whole input and all its lines, in their form in a log.
pub record IsInput (left left' : Option (List ℕ)) (lines : List (List ℕ)) : Type 0 where
  pub bytes : List ℕ
  pub consumes : Consumes left left' bytes
  pub at_end : IsAtEnd left'
  pub lines_are : lines ≡ map logged_line (lines_of bytes)

-- Some bytes of the input and their lines, in their form in a log.
pub record CameIn (left left' : Option (List ℕ)) (lines : List (List ℕ)) : Type 0 where
  pub bytes : List ℕ
  pub consumes : Consumes left left' bytes
  pub read : List (List ℕ)
  pub read_are : AreLinesOf bytes left' read
  pub lines_are : lines ≡ map logged_line read

-- Some lines were read and are synced, with marks among them, and their replies were written.
pub record ServedOn {D : Type 0} (seen : D → List ℕ) (may_leave : D → List ℕ →
    Type 0) (clean : Type 0) (given : List (List ℕ) → Type 0)
    (old new : Recorder D LineAnswers) (before after : Option (List ℕ)) : Type 0 where
  pub lines : List (List ℕ)
  pub came : given (said lines)
  pub tells : Tells (SaysLines old.answers.mode old.answers.runner) lines before after
  pub on : SaysOn (SaysLines old.answers.mode old.answers.runner) lines
      (SaysLines new.answers.mode new.answers.runner)
  pub settled : clean →
      IsSettled seen may_leave new.log
      × (recovered_lines (seen new.log.disk) ≡ recovered_lines (seen old.log.disk) ++ lines)

-- Some bytes were read, the lines that end there are synced, their replies were written, and the
-- part of a line after them is held.
pub record HasCome {D : Type 0} (seen : D → List ℕ) (may_leave : D → List ℕ →
    Type 0) (clean : Type 0) (old new : Recorder D LineAnswers) (intake : Intake)
    (left left' before after : Option (List ℕ)) : Type 0 where
  pub bytes : List ℕ
  pub consumes : Consumes left left' bytes
  pub held_is : line_part intake ≡ shortened_line (rest_from [] bytes)
  pub served : ServedOn seen may_leave clean (λ lines.
      lines ≡ map logged_line (lines_from [] bytes)) old new before after

-- Some lines were read, and each file that a crash may leave covers what was written.
pub record KeptOn (may_leave : List ℕ → Type 0) (given : List (List ℕ) → Type 0) (says : Replies →
    Type 0) (stand : List (List ℕ))
    (before after : Option (List ℕ)) : Type 0 where
  pub lines : List (List ℕ)
  pub came : given (said lines)
  pub kept : TellsKept recovered_lines may_leave says stand lines before after
