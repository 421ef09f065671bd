-- Reading an identifier's characters from its words.
use Rattle.std.specs.Prelude.{◌≡◌, ℕ, ◌/◌, ◌%◌, ◌^◌, ◌<◌, List, get_or}
use Rattle.inst_terms.specs.Identifier.{base}

-- The number of characters in four words.
abbrev pub room : ℕ
room = 36

-- The character at a place of a word.
abbrev pub digit : ℕ → ℕ → ℕ
digit word place = word / base ^ place % base

-- The characters are those of the identifier, then zeros.
abbrev pub StandsIn : List ℕ → List ℕ → Type 0
StandsIn id characters = (k : ℕ) → k < room → get_or characters k 0 ≡ get_or id k 0
