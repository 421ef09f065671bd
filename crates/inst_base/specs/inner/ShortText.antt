-- The layout of a short text in an array: ASCII bytes, then zeros to the array's end. A choice of
-- this hub.
use Rattle.std.specs.Prelude.{◌≡◌, ℕ, ◌-◌, ◌≤◌, List, length, take, drop, replicate}
use Rattle.std.specs.Str.{IsAscii}

-- The first `len` bytes are the text, and the others are 0.
pub record IsPaddedText (room : ℕ) (bytes : List ℕ) (len : ℕ) : Type 0 where
  pub room_is : length bytes ≡ room
  pub within : len ≤ room
  pub ascii : IsAscii (take len bytes)
  pub zeros : drop len bytes ≡ replicate (room - len) 0
