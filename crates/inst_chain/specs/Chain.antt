-- A log whose batches end with marks. A mark is a line with the SHA-256 digest of the file's bytes
-- from the mark before it, that one included; the first mark's digest covers the file from its
-- beginning. So each digest stands for all bytes before it. A choice of this hub.
use Rattle.std.specs.Prelude.{◌≡◌, ◌≢◌, ◌⊎◌, ◌<◌, ℕ, Bool, true, false, List, [], ◌∷◌, ◌++◌, length}
use Rattle.std.specs.Prelude.{◌==◌, ◌&&◌, ◌||◌, not, bytes_eq, nat_le, if◌then◌else◌, Option, None, Some}
use Rattle.std.specs.List.{list_all}
use Rattle.inst_base.specs.Newline.{newline}
use Rattle.inst_log.specs.Layout.{gate, recovered_lines, blocks, IsShut}
use Rattle.inst_log.specs.Escape.{escape}
use Rattle.inst_log.specs.Opening.{lines_after_settings}
use Rattle.sha2.specs.Sha256.{sha256}
use Rattle.hex.specs.Hex.{encode_lower}
use Rattle.inst_chain.specs.declared.digest.Digest.{Digest}

-- The line is a mark: it has an escape before a line that needs none, so no line that was read is
-- written like it.
abbrev pub is_mark : List ℕ → Bool
is_mark [] = false
is_mark (a ∷ []) = false
is_mark (a ∷ b ∷ []) = false
is_mark (a ∷ b ∷ c ∷ []) = false
is_mark (a ∷ b ∷ c ∷ d ∷ rest) =
    (a == gate) && ((b == escape) && ((c == gate) && not (d == escape)))

-- The mark with the digest of this text.
abbrev pub mark_of : List ℕ → List ℕ
mark_of text = gate ∷ escape ∷ gate ∷ encode_lower (sha256 text)

-- The bytes that the next digest covers before its batch: the last mark with its newline. Batches
-- are given newest first.
abbrev pub front_of : List (List (List ℕ)) → List ℕ
front_of [] = []
front_of (batch ∷ older) = mark_of (front_of older ++ blocks batch) ++ newline ∷ []

-- The lines of these batches, oldest first, each batch followed by its mark. Batches are given
-- newest first.
abbrev pub chained_lines : List (List (List ℕ)) → List (List ℕ)
chained_lines [] = []
chained_lines (batch ∷ older) =
    chained_lines older ++ (batch ++ mark_of (front_of older ++ blocks batch) ∷ [])

-- No line is a mark.
abbrev pub HasNoMark : List (List ℕ) → Type 0
HasNoMark [] = Unit {0}
HasNoMark (line ∷ lines) = (is_mark line ≡ false) × HasNoMark lines

-- No batch has a line that is a mark.
abbrev pub HaveNoMark : List (List (List ℕ)) → Type 0
HaveNoMark [] = Unit {0}
HaveNoMark (batch ∷ batches) = HasNoMark batch × HaveNoMark batches

-- The lines are one batch or more, each with its right mark, and nothing else.
pub record IsChain (lines : List (List ℕ)) : Type 0 where
  pub batches : List (List (List ℕ))
  pub some : 0 < length batches
  pub unmarked : HaveNoMark batches
  pub split : lines ≡ chained_lines batches

-- A log whose marks are right and whose lines end with a mark and the byte 0.
pub record IsSealed (file : List ℕ) : Type 0 where
  pub chain : IsChain (recovered_lines file)
  pub shut : IsShut file

-- The lines without the marks.
abbrev pub said : List (List ℕ) → List (List ℕ)
said [] = []
said (line ∷ lines) = if is_mark line then said lines else line ∷ said lines

-- The bytes occur in the file without a gap.
pub record IsPart (bytes file : List ℕ) : Type 0 where
  pub before : List ℕ
  pub behind : List ℕ
  pub split : file ≡ before ++ (bytes ++ behind)

-- Two different texts with one SHA-256 digest, the one a part of `a`, the other of `b`.
pub record Collision (a b : List ℕ) : Type 0 where
  pub one : List ℕ
  pub other : List ℕ
  pub in_a : IsPart one a
  pub in_b : IsPart other b
  pub differ : one ≢ other
  pub same : sha256 one ≡ sha256 other

-- The file isn't a damaged log: it has no line, or its marks and end are right.
abbrev pub IsTaken : List ℕ → Type 0
IsTaken file = (recovered_lines file ≡ []) ⊎ IsSealed file

-- The lines of a file, without marks.
abbrev pub lines_said : List ℕ → List (List ℕ)
lines_said file = said (recovered_lines file)

-- The lines of a log after its settings, without marks.
abbrev pub kept_said : List ℕ → List ℕ → List (List ℕ)
kept_said settings file = said (lines_after_settings settings file)

-- The mark whose digest has these characters.
abbrev pub mark_with : List ℕ → List ℕ
mark_with text = gate ∷ escape ∷ gate ∷ text

-- A lower-case hexadecimal digit, `0-9 a-f`.
abbrev pub is_digest_character : ℕ → Bool
is_digest_character c = (nat_le 48 c && nat_le c 57) || (nat_le 97 c && nat_le c 102)

-- The text of a digest: 64 lower-case hexadecimal digits.
abbrev pub is_digest : List ℕ → Bool
is_digest text = length text == 64 && list_all is_digest_character text

-- The digest has such a text.
abbrev pub IsHexadecimal : Digest → Type 0
IsHexadecimal digest = is_digest digest.text ≡ true

-- One of the lines is a mark.
abbrev pub has_mark : List (List ℕ) → Bool
has_mark [] = false
has_mark (line ∷ lines) = is_mark line || has_mark lines

-- One of the lines is the mark with this digest.
abbrev pub has_digest : Digest → List (List ℕ) → Bool
has_digest digest [] = false
has_digest digest (line ∷ lines) = bytes_eq line (mark_with digest.text) || has_digest digest lines

-- No digest is wanted, or one of the lines is its mark.
abbrev pub has_wanted : Option Digest → List (List ℕ) → Bool
has_wanted None lines = true
has_wanted (Some digest) lines = has_digest digest lines
