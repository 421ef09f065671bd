-- The newline byte, and the end of a line. A choice of this hub.
use Rattle.std.specs.Prelude.{◌≡◌, ◌≢◌, ℕ, ◌+◌, ◌<◌, List, [], ◌∷◌, ◌++◌, length, take, drop}

-- The byte that ends a line.
abbrev pub newline : ℕ
newline = 10

-- Puts the byte before the first line, if there is a line.
abbrev pub onto_whole : ℕ → List (List ℕ) → List (List ℕ)
onto_whole b [] = []
onto_whole b (line ∷ lines) = (b ∷ line) ∷ lines

-- None of the bytes is a newline.
abbrev pub NoNewline : List ℕ → Type 0
NoNewline [] = Unit {0}
NoNewline (b ∷ bytes) = (b ≢ newline) × NoNewline bytes

-- The first newline is at index n.
pub record BreaksAt (bytes : List ℕ) (n : ℕ) : Type 0 where
  pub within : n < length bytes
  pub line : NoNewline (take n bytes)
  pub rest : bytes ≡ take n bytes ++ newline ∷ drop (n + 1) bytes
