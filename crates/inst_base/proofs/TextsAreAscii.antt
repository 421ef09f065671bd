-- The texts that the hub takes are ASCII, since each of their characters is.
use Rattle.std.proofs.Common.{◌≡◌, ℕ, ◌<◌, Bool, true, List, [], ◌∷◌, arith}
use Rattle.std.specs.List.{list_all}
use Rattle.std.specs.Str.{IsAscii}
use Rattle.std.proofs.lemmas.Str.Ascii.{IsAscii-nil, IsAscii-cons}
use Rattle.std.proofs.lemmas.Bool.{and_parts}
use Rattle.std.proofs.lemmas.Bool.Decides.{nat_tests}
use Rattle.inst_base.specs.Text.{is_latin, is_code_character}

pub IsAscii-from_each : (p : ℕ → Bool) → ((x : ℕ) → p x ≡ true → x < 128) → (xs : List ℕ) → list_all p xs ≡ true → IsAscii xs
IsAscii-from_each p below [] h = IsAscii-nil
IsAscii-from_each p below (x ∷ xs) h =
    let parts = and_parts (p x) (list_all p xs) h in
    IsAscii-cons x xs (below x parts.0) (IsAscii-from_each p below xs parts.1)

pub is_code_character-below : (x : ℕ) → is_code_character x ≡ true → x < 128
is_code_character-below x h = grind (arith, nat_tests)

pub is_latin-below : (x : ℕ) → is_latin x ≡ true → x < 128
is_latin-below x h = grind (arith, nat_tests)

pub IsAscii-code : (xs : List ℕ) → list_all is_code_character xs ≡ true → IsAscii xs
IsAscii-code = IsAscii-from_each is_code_character is_code_character-below

pub IsAscii-latin : (xs : List ℕ) → list_all is_latin xs ≡ true → IsAscii xs
IsAscii-latin = IsAscii-from_each is_latin is_latin-below
