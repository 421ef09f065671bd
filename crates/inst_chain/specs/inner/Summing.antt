-- A log that is being read.
use Rattle.std.specs.Prelude.{◌≡◌, ◌⊎◌, ◌<◌, ◌^◌, ◌∷◌, ℕ, Bool, true, false, List, [], ◌++◌, length}
use Rattle.std.specs.Prelude.{drop, Option, Some, Vec, MatchOption, MatchResult, Result}
use Rattle.std.specs.declared.alloc.Global.{Global}
use Rattle.inst_log.specs.Layout.{recovered_lines, blocks}
use Rattle.inst_log.specs.Pieces.{HasCut, stops}
use Rattle.inst_log.specs.declared.error.LogError.{LogError}
use Rattle.inst_log.specs.declared.error.LogError.TheVariants.{Disk, Memory, Full, Write, Told}
use Rattle.inst_log.specs.declared.error.LogError.TheVariants.{OtherSettings, NoLog}
use Rattle.inst_chain.specs.Chain.{is_mark, mark_with, said}
use Rattle.inst_chain.specs.Checking.{HasGoneThrough}
use Rattle.inst_chain.specs.Verifying.{IsDamagedAfter}
use Rattle.inst_chain.specs.Summing.{HasFirst}
use Rattle.inst_chain.specs.declared.digest.Digest.{Digest}
use Rattle.inst_chain.specs.declared.prefix.Prefix.{Prefix}
use Rattle.inst_chain.specs.declared.summary.Seen.{Seen}
use Rattle.inst_chain.specs.declared.summary.LineTally.{LineTally}
use Rattle.inst_chain.specs.declared.summary.Reading.{Reading}

-- The first of these lines, if there is one.
abbrev pub IsFirstOf : Option (Vec ℕ Global) → List (List ℕ) → Type 0
IsFirstOf first lines = MatchOption first (lines ≡ []) (λ line. HasFirst lines line.items)

-- These lines have been taken.
pub record Sees (seen : Seen) (lines : List (List ℕ)) : Type 0 where
  pub first : IsFirstOf seen.first lines
  pub count : length (blocks lines) < 2 ^ 64 → seen.lines ≡ length (said lines)
  pub digest : (before : List (List ℕ)) (mark : List ℕ) → lines ≡ before ++ mark ∷ [] →
      is_mark mark ≡ true → length mark ≡ 67
      → mark ≡ mark_with seen.digest.text

-- A file that begins with these lines is damaged after `right`, whatever lines follow.
abbrev pub AreDamaged : List (List ℕ) → Prefix → Type 0
AreDamaged lines right =
    (file : List ℕ) (later : List (List ℕ)) → recovered_lines file ≡ lines ++ later →
    length file < 2 ^ 64
    → IsDamagedAfter file right

-- These lines have been taken, and their marks were checked.
pub record Tallies (tally : LineTally) (lines : List (List ℕ)) : Type 0 where
  pub sees : Sees tally.seen lines
  pub checked : MatchOption tally.wrong (HasGoneThrough tally.checker lines) (AreDamaged lines)

-- The file was read up to the cutter's position, and `left` is the rest.
pub record HasRead (reading : Reading) (file : List ℕ) (left : Option (List ℕ)) : Type 0 where
  pub done : List (List ℕ)
  pub cut : HasCut file reading.cutter done
  pub tallies : Tallies reading.tally done
  pub left_is : left ≡ Some (drop reading.cutter.at file)
  pub fits : reading.cutter.at < 2 ^ 64

-- All lines of the file were read.
pub record HasReadAll (reading : Reading) (file : List ℕ) : Type 0 where
  pub done : List (List ℕ)
  pub cut : HasCut file reading.cutter done
  pub ended : (drop reading.cutter.at file ≡ []) ⊎ (stops reading.cutter ≡ true)
  pub tallies : Tallies reading.tally done
  pub fits : reading.cutter.at < 2 ^ 64

-- The result for a tally's marks and for whether the byte 0 follows the lines.
abbrev pub IsChain : LineTally → Bool → Result Digest Prefix → Type 0
IsChain tally is_shut result = MatchOption tally.wrong
    (MatchResult result (λ digest. (is_shut ≡ true) × (tally.checker.sealed ≡ true)
    × (digest ≡ tally.seen.digest))
    (λ right. (right ≡ tally.checker.right) × (is_shut ≡ true → tally.checker.sealed ≡ false)))
    (λ right. MatchResult result (λ digest. ⊥) (λ r. r ≡ right))

-- A read failed, an allocation failed, or the file is too long.
abbrev pub IsReadFault : LogError → Type 0
IsReadFault (Disk error) = Unit {0}
IsReadFault Memory = Unit {0}
IsReadFault Full = Unit {0}
IsReadFault NoLog = ⊥
IsReadFault Write = ⊥
IsReadFault Told = ⊥
IsReadFault OtherSettings = ⊥
