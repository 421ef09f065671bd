-- The escaping of texts from outside on standard error. A choice of this hub.
use Rattle.std.specs.Prelude.{◌+◌, ◌/◌, ◌%◌, ◌++◌, ◌∷◌, [], ◌&&◌, ◌==◌, ℕ, Bool, not, nat_le}
use Rattle.std.specs.Prelude.{nat_lt, if◌then◌else◌, List, length, take, codes}
use Rattle.std.specs.List.{flat_map}

-- Printable ASCII without the backslash.
abbrev pub is_shown_as_is : ℕ → Bool
is_shown_as_is c = nat_le 32 c && nat_le c 126 && not (c == 92)

-- The hexadecimal digit, `0-9 a-f`.
abbrev pub hex_digit : ℕ → ℕ
hex_digit n = if nat_lt n 10 then 48 + n else 87 + n

-- The byte itself, or `\x` and its two hexadecimal digits.
abbrev pub shown_byte : ℕ → List ℕ
shown_byte c =
    if is_shown_as_is c then c ∷ [] else 92 ∷ 120 ∷ hex_digit (c / 16) ∷ hex_digit (c % 16) ∷ []

-- The first 200 bytes of a text, escaped, and two points if there are more.
abbrev pub excerpt : List ℕ → List ℕ
excerpt bytes =
    flat_map shown_byte (take 200 bytes) ++ (if nat_lt 200 (length bytes) then codes ".." else [])
