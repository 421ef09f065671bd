-- The steps of a session from one stage to the next.
use Rattle.std.specs.Prelude.{◌≡◌, ℕ, ◌+◌, Bool, false, cond, List, [], take, drop, Option}
use Rattle.inst_base.specs.declared.fault.Fault.{Fault}
use Rattle.inst_base.specs.declared.fault.Fault.TheVariants.{Memory, ReadFault, WriteFault}
use Rattle.inst_lines.specs.declared.session.Session.{Session}
use Rattle.inst_lines.specs.Lines.{lines_of}
use Rattle.inst_lines.specs.Answers.{Answerer, AnswersLine}
use Rattle.inst_lines.specs.LineBuffer.{unanswered_bytes}
use Rattle.inst_lines.specs.Progress.{Progress, Stopped}
use Rattle.inst_lines.specs.Session.{Reached, Finishes, Stage}

-- The first n bytes held are answered as the rest of a line, and dropped with the byte after them.
pub record TakesLine {S W : Type 0} (a : Answerer S) (holds : S → W →
    Type 0) (n : ℕ) (old new : Session)
    (old_world new_world : W) : Type 0 where
  pub is_refused : Bool
  pub answers : AnswersLine a holds old.input.is_long (take n (unanswered_bytes old.input))
      old_world new_world
      old.replies.bytes.items new.replies.bytes.items is_refused
  pub held_is : unanswered_bytes new.input ≡ drop (n + 1) (unanswered_bytes old.input)
  pub is_long_is : new.input.is_long ≡ false
  pub taken_is : new.input.taken ≡ old.input.taken
  pub lines_are : new.counts.lines ≡ old.counts.lines + 1
  pub refused_are : new.counts.refused ≡ old.counts.refused + cond is_refused 1 0

-- All replies stay given, without another read.
pub record Advances {S W : Type 0} (a : Answerer S) (holds : S → W →
    Type 0) (old : Session) (old_world : W) (now : Option (List ℕ))
    (new : Session) (new_world : W) (now' : Option (List ℕ)) : Type 0 where
  pub reaches : (start : S) (before : Option (List ℕ)) (bytes : List ℕ) →
      Reached a holds start before bytes now old old_world →
      Reached a holds start before bytes now' new new_world

-- A prefix of the replies is written.
pub record Stops {S W : Type 0} (a : Answerer S) (holds : S → W →
    Type 0) (old : Session) (old_world : W)
    (now now' : Option (List ℕ)) : Type 0 where
  pub stops : (start : S) (before : Option (List ℕ)) (bytes : List ℕ) →
      Reached a holds start before bytes now old old_world → Stopped a start before bytes now'

-- The replies to all the bytes are written or pending.
pub record AnsweredAll {S W : Type 0} (a : Answerer S) (holds : S → W →
    Type 0) (start : S) (before : Option (List ℕ)) (bytes : List ℕ)
    (now : Option (List ℕ)) (session : Session) (world : W) : Type 0 where
  pub state : S
  pub is_held : holds state world
  pub closed : List ℕ
  pub progress : Progress a start before closed now session.replies.bytes.items state false []
      session.counts.lines session.counts.refused
  pub same_lines : lines_of closed ≡ lines_of bytes

-- A last line is answered.
pub record AnswersLast {S W : Type 0} (a : Answerer S) (holds : S → W → Type 0) (old new : Session)
    (old_world new_world : W) : Type 0 where
  pub ends : (start : S) (before : Option (List ℕ)) (bytes : List ℕ) (now : Option (List ℕ)) →
      Reached a holds start before bytes now old old_world →
      AnsweredAll a holds start before bytes now new new_world

-- The fault isn't ReadFault.
abbrev pub IsNoReadFault : Fault → Type 0
IsNoReadFault Memory = Unit {0}
IsNoReadFault ReadFault = ⊥
IsNoReadFault WriteFault = Unit {0}
IsNoReadFault _ = ⊥

-- From one stage to the next all replies stay given.
abbrev pub MovesOn : {S W : Type 0} → Answerer S → (S → W → Type 0) → Stage W → Stage W → Type 0
MovesOn a holds before after =
    Advances a holds before.session before.world before.written after.session after.world
    after.written

-- The run stopped after the stage, with this written.
abbrev pub HasStopped : {S W : Type 0} → Answerer S → (S → W → Type 0) → Stage W → Option (List ℕ) →
    Type 0
HasStopped a holds before written = Stops a holds before.session before.world before.written written

-- All that was read is answered and written.
abbrev pub HasFinished : {S W : Type 0} → Answerer S → (S → W → Type 0) → Stage W → Stage W → Type 0
HasFinished a holds before after =
    Finishes a holds before.session before.world before.written after.session.counts after.world
    after.written
