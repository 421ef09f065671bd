-- The digest of each mark is 64 lower-case hexadecimal digits.
use Rattle.std.proofs.Common.{◌≡◌, ◌∙◌, inl, inr, ℕ, zero, suc, ◌/◌, ◌%◌, ◌<◌, Bool, true, ◌&&◌, List, [], ◌∷◌, ◌++◌, length, length-append, drop, slice_index, slice_get, Some, append_assoc, refl, sym, ap, subst, arith}
use Rattle.std.specs.List.{list_all}
use Rattle.std.proofs.lemmas.Bool.{and_parts, cases_lt}
use Rattle.sha2.specs.Sha256.{sha256}
use Rattle.sha2.proofs.Facts256.{length-sha256}
use Rattle.hex.specs.Hex.{IsBytes, encode_with, encode_lower, lower_digits}
use Rattle.hex.proofs.HexLemmas.{length-encode_with}
use Rattle.inst_base.proofs.Lists.{last_at}
use Rattle.inst_log.specs.Layout.{blocks}
use Rattle.inst_chain.specs.Chain.{mark_of, mark_with, front_of, chained_lines, is_digest, is_digest_character, IsHexadecimal}
use Rattle.inst_chain.specs.Summing.{IsSealedBy}
use Rattle.inst_chain.specs.declared.digest.Digest.{Digest}
use Rattle.inst_chain.proofs.Digests.{IsBytes-sha256}
use Rattle.inst_chain.proofs.Chains.{Lines}

-- the first n digits of the table
abbrev are_lower : ℕ → Bool
are_lower zero = true
are_lower (suc n) = is_digest_character (slice_index lower_digits n) && are_lower n

lower_at : (n k : ℕ) → are_lower n ≡ true → k < n → is_digest_character (slice_index lower_digits k) ≡ true
lower_at zero k all below = absurd (omega arith)
lower_at (suc n) k all below =
    let parts = and_parts (is_digest_character (slice_index lower_digits n)) (are_lower n) all in
    elim (cases_lt k n) [
      | inl less ↦ lower_at n k parts.1 less
      | inr top ↦
          let same : k ≡ n = omega arith in
          rw same parts.0
    ]

lower : (k : ℕ) → k < 16 → is_digest_character (slice_index lower_digits k) ≡ true
lower k below = lower_at 16 k refl below

encoded : (bytes : List ℕ) → IsBytes bytes → list_all is_digest_character (encode_lower bytes) ≡ true
unfolding encode_with
encoded [] all = refl
encoded (b ∷ rest) all =
    let first : b / 16 < 16 = omega (arith, all 0) in
    let second : b % 16 < 16 = omega arith in
    rw (lower (b / 16) first, lower (b % 16) second, encoded rest (λ i. all (suc i))) refl

sum_is_digest : (text : List ℕ) → is_digest (encode_lower (sha256 text)) ≡ true
sum_is_digest text =
    let size : length (encode_lower (sha256 text)) ≡ 64 = omega (arith, length-encode_with lower_digits (sha256 text), length-sha256 text) in
    rw (size, encoded (sha256 text) (IsBytes-sha256 text)) refl

last_same : (a b : Lines) (x y : List ℕ) → a ++ x ∷ [] ≡ b ++ y ∷ [] → x ≡ y
last_same a b x y same =
    let size : length a ≡ length b = omega (arith, ap (λ (ls : Lines). length ls) same, length-append a (x ∷ []), length-append b (y ∷ [])) in
    let both : Some x ≡ Some y = sym (last_at a x) ∙ ap (λ (ls : Lines). slice_get ls (length a)) same ∙ ap (λ (n : ℕ). slice_get (b ++ y ∷ []) n) size ∙ last_at b y in
    cc both

last_mark : (batches : List Lines) (before : Lines) (text : List ℕ) → 0 < length batches → chained_lines batches ≡ before ++ mark_with text ∷ [] → is_digest text ≡ true
last_mark [] before text some same = absurd (omega arith)
last_mark (batch ∷ older) before text some same =
    let covered = front_of older ++ blocks batch in
    let mark = last_same (chained_lines older ++ batch) before (mark_of covered) (mark_with text) (append_assoc (chained_lines older) batch (mark_of covered ∷ []) ∙ same) in
    subst (λ (l : List ℕ). is_digest l ≡ true) (ap (drop 3) mark) (sum_is_digest covered)

-- the digest of a log's last mark
pub sealed_hexadecimal : (file : List ℕ) (digest : Digest) → IsSealedBy file digest → IsHexadecimal digest
sealed_hexadecimal file digest by =
    last_mark by.sealed.chain.batches by.last.before digest.text by.sealed.chain.some (sym by.sealed.chain.split ∙ by.last.split)
