-- An identifier in four words: nine characters a word, the first in the lowest digits, each by its
-- ASCII value, and 0 past the end. The layout is a choice of this hub; the characters are the
-- scheme's (EPC004-16, chapter 4: attributes).
use Rattle.std.specs.Prelude.{ℕ, zero, suc, ◌+◌, ◌*◌, ◌^◌, List, [], ◌∷◌, get_or}

-- The sum of f j over all j below n.
unfoldable pub sum_below : ℕ → (ℕ → ℕ) → ℕ
sum_below zero f = 0
sum_below (suc n) f = sum_below n f + f n

-- One more than the largest value of a character.
abbrev pub base : ℕ
base = 128

-- The number of n characters, the first in the lowest digit.
abbrev pub in_base_128 : ℕ → (ℕ → ℕ) → ℕ
in_base_128 n character = sum_below n (λ j. character j * base ^ j)

-- The word of the nine characters from `start` on.
abbrev pub nine_from : List ℕ → ℕ → ℕ
nine_from text start = in_base_128 9 (λ j. get_or text (start + j) 0)

-- The four words of an identifier.
abbrev pub identifier_words : List ℕ → List ℕ
identifier_words id = nine_from id 0 ∷ nine_from id 9 ∷ nine_from id 18 ∷ nine_from id 27 ∷ []
