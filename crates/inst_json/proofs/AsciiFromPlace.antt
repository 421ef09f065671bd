-- What stands from a place on is ASCII, if what stands behind it is.
use Rattle.std.proofs.Common.{◌≡◌, ℕ, ◌+◌, ◌<◌, true, List, length, get_or, drop, IsAscii, refl, sym, subst, arith}
use Rattle.std.proofs.lemmas.Str.Ascii.{IsAscii-cons}
use Rattle.std.proofs.lemmas.Bool.Decides.{nat_tests}
use Rattle.json.specs.Word.{is_space}
use Rattle.inst_json.proofs.TokensAtLinePlaces.{at_place}

pub ascii_byte : (t : List ℕ) (i x : ℕ) → i < length t → get_or t i 0 ≡ x → x < 128 → IsAscii (drop (i + 1) t) → IsAscii (drop i t)
ascii_byte t i x within is small rest = subst IsAscii (sym (at_place t i x within is)) (IsAscii-cons x (drop (i + 1) t) small rest)

space_small : (x : ℕ) → is_space x ≡ true → x < 128
space_small x h = grind (arith, nat_tests)

pub ascii_space : (t : List ℕ) (i : ℕ) → i < length t → is_space (get_or t i 0) ≡ true → IsAscii (drop (i + 1) t) → IsAscii (drop i t)
ascii_space t i within h = ascii_byte t i (get_or t i 0) within refl (space_small (get_or t i 0) h)
