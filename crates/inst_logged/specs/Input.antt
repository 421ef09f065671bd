-- The form of an input's lines in a log. A choice of this hub.
use Rattle.std.specs.Prelude.{ℕ, ◌+◌, List, take}
use Rattle.inst_lines.specs.Limits.{most_line_bytes}
use Rattle.inst_log.specs.Escape.{raw_of}

-- The first 4,097 bytes of a line; more isn't needed to see that it is too long.
abbrev pub shortened_line : List ℕ → List ℕ
shortened_line line = take (most_line_bytes + 1) line

-- The form in the log of a line that was read.
abbrev pub logged_line : List ℕ → List ℕ
logged_line line = raw_of (shortened_line line)
