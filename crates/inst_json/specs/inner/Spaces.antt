-- White space between the tokens of a line (JSON, RFC 8259).
use Rattle.std.specs.Prelude.{◌≡◌, ℕ, ◌<◌, ◌≤◌, List, length, drop, slice_index, false}
use Rattle.std.specs.Str.{IsAscii}
use Rattle.json.specs.Word.{is_space}
use Rattle.json.specs.Lex.{lex, between}

-- From one position to another nothing but white space is passed over, and all of it.
-- - stops: no white space follows.
-- - same: the same tokens follow both positions.
-- - ascii: what was passed over is ASCII.
pub record SkipsSpace (text : List ℕ) (start stop : ℕ) : Type 0 where
  pub from : start ≤ stop
  pub within : stop ≤ length text
  pub stops : stop < length text → is_space (slice_index text stop) ≡ false
  pub same : lex between (drop stop text) ≡ lex between (drop start text)
  pub ascii : IsAscii (drop stop text) → IsAscii (drop start text)
