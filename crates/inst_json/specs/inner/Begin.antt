-- The bytes with which a value may begin (JSON, RFC 8259, section 3).
use Rattle.std.specs.Prelude.{ℕ, Bool, ◌||◌, ◌==◌}
use Rattle.std.specs.Char.{is_ascii_digit}
use Rattle.json.specs.Ascii as ascii

abbrev pub begins_value : ℕ → Bool
begins_value x =
    is_ascii_digit x || (x == ascii.quote) || (x == ascii.open_brace) || (x == ascii.open_bracket)
    || (x == ascii.minus)
    || (x == ascii.lower_t) || (x == ascii.lower_f) || (x == ascii.lower_n)
