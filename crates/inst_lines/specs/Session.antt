-- What a session has read, answered and written. A choice of this hub.
use Rattle.std.specs.Prelude.{◌≡◌, ℕ, ◌<◌, ◌≤◌, false, List, [], ◌++◌, length, Option, IfSome}
use Rattle.std.specs.Io.KnownBytes.{Consumes, IsAtEnd}
use Rattle.inst_base.specs.declared.fault.Fault.{Fault}
use Rattle.inst_base.specs.declared.fault.Fault.TheVariants.{Memory, ReadFault, WriteFault}
use Rattle.inst_lines.specs.declared.session.Session.{Session}
use Rattle.inst_lines.specs.declared.session.Counts.{Counts}
use Rattle.inst_base.specs.Newline.{NoNewline}
use Rattle.inst_lines.specs.Limits.{most_lines, most_line_bytes}
use Rattle.inst_lines.specs.Lines.{lines_of, IsWithinLimits}
use Rattle.inst_lines.specs.Answers.{Answerer, refusals}
use Rattle.inst_lines.specs.LineBuffer.{unanswered_bytes}
use Rattle.inst_lines.specs.Progress.{Progress, Stopped, Finished, CutOff}

-- The session has come this far in the bytes that were read.
pub record Reached {S W : Type 0} (a : Answerer S) (holds : S → W →
    Type 0) (start : S) (before : Option (List ℕ)) (bytes : List ℕ)
    (now : Option (List ℕ)) (session : Session) (world : W) : Type 0 where
  pub state : S
  pub is_held : holds state world
  pub progress : Progress a start before bytes now session.replies.bytes.items state
      session.input.is_long (unanswered_bytes session.input) session.counts.lines
      session.counts.refused
  pub taken_is : session.input.taken ≡ length bytes

-- No whole line is held; after the last line that a run may have nothing is held.
pub record IsAnswered (session : Session) : Type 0 where
  pub no_newline : NoNewline (unanswered_bytes session.input)
  pub limit : session.counts.lines ≡ most_lines →
      (session.input.is_long ≡ false) × (unanswered_bytes session.input ≡ [])

-- Each whole line is answered, the replies are written, and the buffer has space for a read.
pub record IsReadyToRead (session : Session) : Type 0 where
  pub answered : IsAnswered session
  pub pending : session.replies.bytes.items ≡ []
  pub room : session.input.end ≤ most_line_bytes

-- All is answered and written, with these counts.
pub record Finishes {S W : Type 0} (a : Answerer S) (holds : S → W →
    Type 0) (old : Session) (old_world : W) (now : Option (List ℕ))
    (counts : Counts) (new_world : W) (now' : Option (List ℕ)) : Type 0 where
  pub finishes : (start : S) (before : Option (List ℕ)) (bytes : List ℕ) →
      Reached a holds start before bytes now old old_world →
      (state : S) × holds state new_world
      × Finished a start before bytes now' state counts.lines counts.refused

-- The replies that were written when a fault ended the run. No other fault ends a run.
abbrev pub Leaves : {S : Type 0} → Answerer S → S → Option (List ℕ) → List ℕ → Option (List ℕ) →
    Fault → Type 0
Leaves a start before bytes now Memory = Stopped a start before bytes now
Leaves a start before bytes now ReadFault = CutOff a start before bytes now
Leaves a start before bytes now WriteFault = Stopped a start before bytes now
Leaves a start before bytes now _ = ⊥

-- More bytes were read and answered.
pub record Turns {S W : Type 0} (a : Answerer S) (holds : S → W →
    Type 0) (old : Session) (old_world : W) (now : Option (List ℕ)) (new : Session)
    (new_world : W) (now' : Option (List ℕ)) (left left' : Option (List ℕ)) : Type 0 where
  pub read : List ℕ
  pub consumes : Consumes left left' read
  pub is_ready : IsReadyToRead new
  pub more : old.input.taken < new.input.taken
  pub reaches : (start : S) (before : Option (List ℕ)) (bytes : List ℕ) →
      Reached a holds start before bytes now old old_world →
      Reached a holds start before (bytes ++ read) now' new new_world

-- The input is at its end, and all is answered and written, with these counts.
pub record EndsInput {S W : Type 0} (a : Answerer S) (holds : S → W →
    Type 0) (old : Session) (old_world : W) (now : Option (List ℕ)) (counts : Counts)
    (new_world : W) (now' : Option (List ℕ)) (left left' : Option (List ℕ)) : Type 0 where
  pub consumes : Consumes left left' []
  pub at_end : IsAtEnd left'
  pub finishes : Finishes a holds old old_world now counts new_world now'

-- A fault ended the run, after some more bytes.
pub record FailsRun {S W : Type 0} (a : Answerer S) (holds : S → W →
    Type 0) (old : Session) (old_world : W) (now now' : Option (List ℕ))
    (left left' : Option (List ℕ)) (fault : Fault) : Type 0 where
  pub read : List ℕ
  pub consumes : Consumes left left' read
  pub leaves : (start : S) (before : Option (List ℕ)) (bytes : List ℕ) →
      Reached a holds start before bytes now old old_world →
      Leaves a start before (bytes ++ read) now' fault

-- The number of lines of these bytes, and the number of them that are refused.
pub record CountsLines {S : Type 0} (a : Answerer S) (start : S) (bytes : List ℕ)
    (counts : Counts) : Type 0 where
  pub lines : counts.lines ≡ length (lines_of bytes)
  pub refused : counts.refused ≡ refusals a start (lines_of bytes)

-- All that the reader had was read, and it is within the limits of a run.
pub record IsReadToEnd (left left' : Option (List ℕ)) : Type 0 where
  pub at_end : IsAtEnd left'
  pub limits : IfSome left IsWithinLimits

-- The replies written by a whole run that a fault ended.
pub record FailsAfter {S : Type 0} (a : Answerer S) (start : S) (before now : Option (List ℕ))
    (left left' : Option (List ℕ)) (fault : Fault) : Type 0 where
  pub bytes : List ℕ
  pub consumes : Consumes left left' bytes
  pub leaves : Leaves a start before bytes now fault

-- A run between two reads: its session, its world, and the bytes that the writer has, if they are
-- known.
pub record Stage (W : Type 0) : Type 0 where
  pub session : Session
  pub world : W
  pub written : Option (List ℕ)

-- The stage with these parts.
abbrev pub stage : {W : Type 0} → Session → W → Option (List ℕ) → Stage W
stage session world written = record { session = session; world = world; written = written }

-- More bytes of the reader were read and answered.
abbrev pub HasTurned : {S W : Type 0} → Answerer S → (S → W → Type 0) → Stage W → Stage W →
    Option (List ℕ) →
    Option (List ℕ) → Type 0
HasTurned a holds before after left left' =
    Turns a holds before.session before.world before.written after.session after.world after.written
    left left'

-- The reader had nothing left, and all is answered and written.
abbrev pub HasEnded : {S W : Type 0} → Answerer S → (S → W → Type 0) → Stage W → Stage W →
    Option (List ℕ) →
    Option (List ℕ) → Type 0
HasEnded a holds before after left left' =
    EndsInput a holds before.session before.world before.written after.session.counts after.world
    after.written left left'

-- A fault ended the run, with this written and this left to read.
abbrev pub HasFailed : {S W : Type 0} → Answerer S → (S → W → Type 0) → Stage W → Option (List ℕ) →
    Option (List ℕ) →
    Option (List ℕ) → Fault → Type 0
HasFailed a holds before written left left' fault =
    FailsRun a holds before.session before.world before.written written left left' fault
