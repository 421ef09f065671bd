-- A rejection reason as a number: its four characters in base 36, the first highest, `0-9` as 0 to
-- 9 and `A-Z` as 10 to 35. The reason's form is the scheme's (EPC004-16, chapter 4: attributes; ISO
-- reason codes); its number is a choice of this hub.
use Rattle.std.specs.Prelude.{ℕ, ◌+◌, ◌-◌, ◌*◌, ◌^◌, List, get_or, nat_lt, if◌then◌else◌}

-- The value of a character of `0-9 A-Z`.
abbrev pub digit_of : ℕ → ℕ
digit_of character = if nat_lt character 65 then character - 48 else character - 55

-- The base.
abbrev pub digits : ℕ
digits = 36

-- The number of four characters.
abbrev pub reason_number : List ℕ → ℕ
reason_number text =
    digit_of (get_or text 0 0) * digits ^ 3 + digit_of (get_or text 1 0) * digits ^ 2
    + digit_of (get_or text 2 0) * digits + digit_of (get_or text 3 0)
