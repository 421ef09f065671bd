-- Reading a reason's characters from its number.
use Rattle.std.specs.Prelude.{ℕ, ◌+◌, nat_lt, if◌then◌else◌}

-- The character with this value.
abbrev pub character_of : ℕ → ℕ
character_of digit = if nat_lt digit 10 then digit + 48 else digit + 55
