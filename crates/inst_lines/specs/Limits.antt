-- The limits of a run, in lines and bytes. A choice of this hub.
use Rattle.std.specs.Prelude.{ℕ}
use Rattle.inst_lines.specs.declared.limits.TheConstants.{MOST_LINES, MOST_LINE_BYTES, BUFFER_BYTES}

-- The most lines of a run.
abbrev pub most_lines : ℕ
most_lines = MOST_LINES

-- The most bytes of a run. It is a literal, since no test reads so many.
abbrev pub most_bytes : ℕ
most_bytes = 4294967296

-- The most bytes of a line, not counting its newline.
abbrev pub most_line_bytes : ℕ
most_line_bytes = MOST_LINE_BYTES

-- The bytes of an input buffer.
abbrev pub buffer_bytes : ℕ
buffer_bytes = BUFFER_BYTES
