-- The contents of an input buffer, and the effect of a read. A choice of this hub.
use Rattle.std.specs.Prelude.{◌≡◌, ℕ, ◌+◌, List, [], ◌++◌, length, slice_range, Option, ◌⊎◌}
use Rattle.std.specs.Io.KnownBytes.{Consumes, IsAtEnd}
use Rattle.inst_lines.specs.declared.line_buffer.LineBuffer.{LineBuffer}
use Rattle.inst_lines.specs.Limits.{most_bytes}

-- The bytes that were read and not answered, without the dropped bytes of a line that is too long.
abbrev pub unanswered_bytes : LineBuffer → List ℕ
unanswered_bytes input = slice_range input.bytes.items input.start input.end

-- The next n bytes were read; n is 0 only at the end.
pub record Fills (old new : LineBuffer) (n : ℕ) (before after : Option (List ℕ)) : Type 0 where
  pub read : List ℕ
  pub length_is : length read ≡ n
  pub consumes : Consumes before after read
  pub held_is : unanswered_bytes new ≡ unanswered_bytes old ++ read
  pub is_long_is : new.is_long ≡ old.is_long
  pub taken_is : new.taken ≡ old.taken + n
  pub at_end : n ≡ 0 → IsAtEnd after

-- A read failed, or the input is longer than a run may be.
pub record FillFails (old : LineBuffer) (before after : Option (List ℕ)) : Type 0 where
  pub past : List ℕ
  pub consumes : Consumes before after past
  pub why : (past ≡ []) ⊎ (old.taken ≡ most_bytes)
