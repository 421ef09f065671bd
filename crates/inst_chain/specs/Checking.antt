-- The states of a marker and a checker. A choice of this hub.
use Rattle.std.specs.Prelude.{◌≡◌, ◌<◌, ◌^◌, ℕ, true, false, List, [], ◌∷◌, ◌++◌, length}
use Rattle.inst_log.specs.Layout.{recovered_lines, blocks}
use Rattle.sha2.specs.Hashers.{Holds256}
use Rattle.inst_chain.specs.Chain.{is_mark, mark_of, front_of, chained_lines, HasNoMark, HaveNoMark}
use Rattle.inst_chain.specs.declared.marker.Marker.{Marker}
use Rattle.inst_chain.specs.declared.prefix.Prefix.{Prefix}
use Rattle.inst_chain.specs.declared.checker.Checker.{Checker}

-- The next mark will have the digest of this text.
abbrev pub Digests : Marker → List ℕ → Type 0
Digests marker text = Holds256 marker.hasher text

-- The prefix has the number and bytes of these lines, if they are below 2^64 bytes.
abbrev pub Counts : Prefix → List (List ℕ) → Type 0
Counts prefix lines =
    length (blocks lines) < 2 ^ 64 →
    (prefix.lines ≡ length lines) × (prefix.bytes ≡ length (blocks lines))

-- The last line is a mark.
pub record EndsMarked (lines : List (List ℕ)) : Type 0 where
  pub before : List (List ℕ)
  pub mark : List ℕ
  pub is : is_mark mark ≡ true
  pub split : lines ≡ before ++ mark ∷ []

-- The checker has taken these lines: batches with right marks, newest first, and the lines after
-- the last mark.
pub record HasGoneThrough (checker : Checker) (lines : List (List ℕ)) : Type 0 where
  pub older : List (List (List ℕ))
  pub part : List (List ℕ)
  pub unmarked : HaveNoMark older
  pub plain : HasNoMark part
  pub split : lines ≡ chained_lines older ++ part
  pub digests : Digests checker.marker (front_of older ++ blocks part)
  pub whole : checker.sealed ≡ true → (part ≡ []) × (0 < length older)
  pub open_end : checker.sealed ≡ false → EndsMarked lines → ⊥
  pub came : Counts checker.came lines
  pub right : Counts checker.right (chained_lines older)

-- One of the next lines is a wrong mark, and `right` counts the lines up to the mark before it.
pub record IsWrongAt (checker : Checker) (bytes : List ℕ) (right : Prefix) : Type 0 where
  pub mid : Checker
  pub done : List (List ℕ)
  pub line : List ℕ
  pub rest : List (List ℕ)
  pub split : recovered_lines bytes ≡ done ++ line ∷ rest
  pub stands : (lines : List (List ℕ)) → HasGoneThrough checker lines
      → HasGoneThrough mid (lines ++ done)
  pub mark : is_mark line ≡ true
  pub wrong : (lines : List (List ℕ)) → (s : HasGoneThrough mid lines) →
      line ≡ mark_of (front_of s.older ++ blocks s.part) → ⊥
  pub same : right ≡ mid.right
