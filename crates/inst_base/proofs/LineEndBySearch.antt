-- Where a line ends, by a search.
use Rattle.std.proofs.Common.{◌≡◌, ◌≢◌, ℕ, suc, ◌+◌, ◌<◌, List, [], ◌∷◌, ◌++◌, Option, Some, None, MatchOption, length, get_or, take, drop, sym, ap, subst, ◌∙◌, arith}
use Rattle.std.proofs.lemmas.Bool.{eqb-true, eq-eqb}
use Rattle.std.proofs.lemmas.List.{take-append-drop, drop_more, length-take-le, get_or-take}
use Rattle.memchr.specs.Find.{IsFirstByte, is_byte}
use Rattle.inst_base.specs.Newline.{NoNewline, BreaksAt}

-- no newline where no index has one
pub NoNewline-from_index : (bytes : List ℕ) → ((k : ℕ) → k < length bytes → get_or bytes k 0 ≢ 10) → NoNewline bytes
NoNewline-from_index [] none = tt
NoNewline-from_index (b ∷ bytes) none = (none 0 (omega arith), NoNewline-from_index bytes (λ k below. none (suc k) (omega arith)))

-- the first newline by its index
pub BreaksAt-from_index : (bytes : List ℕ) (n : ℕ) → n < length bytes → ((k : ℕ) → k < n → get_or bytes k 0 ≢ 10) → get_or bytes n 0 ≡ 10 → BreaksAt bytes n
BreaksAt-from_index bytes n below before at =
    let len : length (take n bytes) ≡ n = length-take-le n bytes (omega arith) in
    record {
      within = below;
      line = NoNewline-from_index (take n bytes) (λ k h. let lt : k < n = omega arith in subst (λ (x : ℕ). x ≢ 10) (sym (get_or-take n bytes k 0 lt)) (before k lt));
      rest = sym (take-append-drop n bytes) ∙ ap (λ (t : List ℕ). take n bytes ++ t) (drop_more bytes n 0 below ∙ ap (λ (x : ℕ). x ∷ drop (n + 1) bytes) at);
    }

-- what a search for a newline gives
pub breaks_from_search : (bytes : List ℕ) (r : Option ℕ) → IsFirstByte (is_byte 10) bytes r → MatchOption r (NoNewline bytes) (λ n. BreaksAt bytes n)
breaks_from_search bytes None h = NoNewline-from_index bytes (λ k below is. h k (omega arith) below (eq-eqb _ _ is))
breaks_from_search bytes (Some n) h =
    BreaksAt-from_index bytes n h.0.high (λ k below is. h.0.before k (omega arith) below (eq-eqb _ _ is)) (eqb-true _ _ h.1)

pub NoNewline-append : (xs ys : List ℕ) → NoNewline xs → NoNewline ys → NoNewline (xs ++ ys)
NoNewline-append [] ys p q = q
NoNewline-append (x ∷ xs) ys p q = (p.0, NoNewline-append xs ys p.1 q)
