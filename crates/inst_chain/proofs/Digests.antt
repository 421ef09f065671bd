-- Digests as hex text, and the marks that they make.
use Rattle.std.proofs.Common.{◌≡◌, ◌≢◌, ◌⊎◌, inl, inr, ℕ, zero, suc, ◌/◌, ◌%◌, ◌<◌, true, List, [], ◌∷◌, ◌++◌, length, slice_index, None, refl, sym, ◌∙◌, ap, arith}
use Rattle.std.proofs.lemmas.Bool.{cases_eq}
use Rattle.std.specs.Int.{w32, byte_at, bytes_high_first, to_be_bytes}
use Rattle.std.proofs.lemmas.Bool.Decides.{nat_tests}
use Rattle.inst_base.specs.Newline.{newline, NoNewline}
use Rattle.std.proofs.lemmas.List.{append-nil}
use Rattle.inst_log.specs.Layout.{recovered_lines}
use Rattle.inst_log.proofs.Lines.{IsLine, AllLines, recovered_blocks}
use Rattle.sha2.specs.Sha256.{sha256, digest_bytes, final_hash, initial_hash_256}
use Rattle.sha2.proofs.Facts256.{length-sha256}
use Rattle.hex.specs.Hex.{IsBytes, encode_with, encode_lower, lower_digits, hex_digit_value, decode_of}
use Rattle.hex.proofs.HexLemmas.{IsDigits-lower_digits, decode_of-encode_lower}
use Rattle.inst_chain.specs.Chain.{is_mark, mark_of}

-- two lists are the same or not
pub same_or_not : (a b : List ℕ) → (a ≡ b) ⊎ (a ≢ b)
same_or_not [] [] = inl refl
same_or_not [] (y ∷ b) = inr (λ same. cc same)
same_or_not (x ∷ a) [] = inr (λ same. cc same)
same_or_not (x ∷ a) (y ∷ b) = elim (cases_eq x y) [
  | inl head ↦
      elim (same_or_not a b) [
        | inl tail ↦ inl (λ i. head i ∷ tail i)
        | inr differ ↦ inr (λ same. differ (cc same))
      ]
  | inr differ ↦ inr (λ same. differ (cc same))
]

-- ---- a digest has bytes

byte_is_low : (k n : ℕ) → byte_at k n < 256
byte_is_low zero n = omega arith
byte_is_low (suc k) n = omega arith

IsBytes-append : (a b : List ℕ) → IsBytes a → IsBytes b → IsBytes (a ++ b)
IsBytes-append [] b all more i = more i
IsBytes-append (x ∷ a) b all more zero = all 0
IsBytes-append (x ∷ a) b all more (suc i) = IsBytes-append a b (λ k. all (suc k)) more i

IsBytes-high_first : (k n : ℕ) → IsBytes (bytes_high_first k n)
IsBytes-high_first zero n i = omega arith
IsBytes-high_first (suc k) n zero = byte_is_low k n
IsBytes-high_first (suc k) n (suc i) = IsBytes-high_first k n i

IsBytes-digest_bytes : (h : List ℕ) (n : ℕ) → IsBytes (digest_bytes h n)
unfolding digest_bytes
IsBytes-digest_bytes h zero i = omega arith
IsBytes-digest_bytes h (suc n) i =
    IsBytes-append (digest_bytes h n) (to_be_bytes w32 (slice_index h n)) (IsBytes-digest_bytes h n) (IsBytes-high_first 4 (slice_index h n)) i

pub IsBytes-sha256 : (m : List ℕ) → IsBytes (sha256 m)
unfolding sha256
IsBytes-sha256 m = IsBytes-digest_bytes (final_hash initial_hash_256 m) 8

-- ---- hex text

-- a digit is no newline and no escape
digit_reads : (d c : ℕ) → d < 16 → hex_digit_value c ≡ None → slice_index lower_digits d ≢ c
digit_reads d c low none same = cc (sym (IsDigits-lower_digits d low), ap hex_digit_value same, none)

no_newline : (bytes : List ℕ) → IsBytes bytes → NoNewline (encode_lower bytes)
unfolding encode_with
no_newline [] all = tt
no_newline (b ∷ rest) all =
    let fits : b < 256 = all 0 in (
      digit_reads (b / 16) 10 (omega arith) refl,
      (digit_reads (b % 16) 10 (omega arith) refl, no_newline rest (λ k. all (suc k))),
    )

encode_injective : (a b : List ℕ) → IsBytes a → IsBytes b → encode_lower a ≡ encode_lower b → a ≡ b
encode_injective a b in_a in_b same = cc (decode_of-encode_lower a in_a, decode_of-encode_lower b in_b, ap decode_of same)

-- ---- marks

-- a mark with its newline is one line
pub mark_line : (digest : List ℕ) → IsBytes digest → recovered_lines ((123 ∷ 1 ∷ 123 ∷ encode_lower digest) ++ newline ∷ []) ≡ (123 ∷ 1 ∷ 123 ∷ encode_lower digest) ∷ []
mark_line digest all =
    let line = 123 ∷ 1 ∷ 123 ∷ encode_lower digest in
    let is : AllLines (line ∷ []) = ((refl, (λ e. omega (arith, e), (λ e. omega (arith, e), no_newline digest all))), tt) in
    ap recovered_lines (sym (append-nil (line ++ newline ∷ []))) ∙ recovered_blocks (line ∷ []) [] is

pub mark_is_line : (text : List ℕ) → IsLine (mark_of text)
mark_is_line text = (refl, (λ e. omega (arith, e), (λ e. omega (arith, e), no_newline (sha256 text) (IsBytes-sha256 text))))

pub mark_tells : (one other : List ℕ) → mark_of one ≡ mark_of other → sha256 one ≡ sha256 other
mark_tells one other same = encode_injective (sha256 one) (sha256 other) (IsBytes-sha256 one) (IsBytes-sha256 other) (cc same)

-- the text of one digest at least begins with a digit
pub mark_by : (bytes : List ℕ) → IsBytes bytes → 0 < length bytes → is_mark (123 ∷ 1 ∷ 123 ∷ encode_lower bytes) ≡ true
unfolding encode_with
mark_by [] all some = absurd (omega arith)
mark_by (b ∷ rest) all some =
    let fits : b < 256 = all 0 in
    let other : slice_index lower_digits (b / 16) ≢ 1 = digit_reads (b / 16) 1 (omega arith) refl in
    grind (arith, nat_tests, other)

pub mark_is_mark : (text : List ℕ) → is_mark (mark_of text) ≡ true
mark_is_mark text = mark_by (sha256 text) (IsBytes-sha256 text) (omega (arith, length-sha256 text))
