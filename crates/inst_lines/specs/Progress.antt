-- The progress of a run. A choice of this hub.
use Rattle.std.specs.Prelude.{◌≡◌, ℕ, Bool, List, ◌++◌, length, Option}
use Rattle.std.specs.Io.KnownBytes.{Appends}
use Rattle.inst_lines.specs.Lines.{lines_of, whole_lines_of, whole_lines_within}
use Rattle.inst_lines.specs.Answers.{Answerer, output, state_after, refusals, IsFront}

-- The bytes are these lines, each with its newline, and then the rest.
pub record Splits (bytes : List ℕ) (first : List (List ℕ)) (rest : List ℕ) : Type 0 where
  pub lines : (more : List ℕ) → lines_of (bytes ++ more) ≡ first ++ lines_of (rest ++ more)
  pub whole : (more : List ℕ) →
      whole_lines_of (bytes ++ more) ≡ first ++ whole_lines_of (rest ++ more)

-- Of the bytes that were read, the lines in `answered` are answered and the rest is held, without
-- the dropped bytes of a line that is too long. From `before` to `now` the writer got the replies,
-- except those still `pending`.
pub record Progress {S : Type 0} (a : Answerer S) (start : S) (before : Option (List ℕ))
    (bytes : List ℕ)
    (now : Option (List ℕ)) (pending : List ℕ) (state : S) (is_long : Bool) (held : List ℕ)
    (lines refused : ℕ)
    : Type 0 where
  pub answered : List (List ℕ)
  pub front : List ℕ
  pub written : List ℕ
  pub splits : Splits bytes answered (front ++ held)
  pub is_front : IsFront is_long front
  pub appends : Appends before now written
  pub replies : written ++ pending ≡ output a start answered
  pub state_is : state ≡ state_after a start answered
  pub lines_are : lines ≡ length answered
  pub refused_are : refused ≡ refusals a start answered

-- A prefix of the replies to the bytes that were read was written.
pub record Stopped {S : Type 0} (a : Answerer S) (start : S) (before : Option (List ℕ))
    (bytes : List ℕ) (now : Option (List ℕ)) : Type 0 where
  pub written : List ℕ
  pub unwritten : List ℕ
  pub appends : Appends before now written
  pub is_front : output a start (lines_of bytes) ≡ written ++ unwritten

-- Each line of the bytes is answered, and its reply written.
pub record Finished {S : Type 0} (a : Answerer S) (start : S) (before : Option (List ℕ))
    (bytes : List ℕ)
    (now : Option (List ℕ)) (state : S) (lines refused : ℕ) : Type 0 where
  pub appends : Appends before now (output a start (lines_of bytes))
  pub state_is : state ≡ state_after a start (lines_of bytes)
  pub lines_are : lines ≡ length (lines_of bytes)
  pub refused_are : refused ≡ refusals a start (lines_of bytes)

-- The replies to the lines whose newline was read within the limits are written, and nothing else.
pub record CutOff {S : Type 0} (a : Answerer S) (start : S) (before : Option (List ℕ))
    (bytes : List ℕ) (now : Option (List ℕ)) : Type 0 where
  pub appends : Appends before now (output a start (whole_lines_within bytes))
