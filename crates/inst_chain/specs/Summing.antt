-- The summary of a log that was read from its first byte. A choice of this hub.
use Rattle.std.specs.Prelude.{◌≡◌, ◌<◌, ◌^◌, ◌∷◌, ℕ, List, [], ◌++◌, length, MatchResult}
use Rattle.inst_log.specs.Layout.{recovered_lines}
use Rattle.inst_log.specs.declared.error.LogError.{LogError}
use Rattle.inst_log.specs.declared.error.LogError.TheVariants.{Disk, Memory, Full, Write, Told}
use Rattle.inst_log.specs.declared.error.LogError.TheVariants.{OtherSettings, NoLog}
use Rattle.inst_chain.specs.Chain.{mark_with, said, IsSealed}
use Rattle.inst_chain.specs.Verifying.{IsDamagedAfter}
use Rattle.inst_chain.specs.declared.digest.Digest.{Digest}
use Rattle.inst_chain.specs.declared.prefix.Prefix.{Prefix}
use Rattle.inst_chain.specs.declared.summary.Summary.{Summary}

-- The first of these lines.
pub record HasFirst (lines : List (List ℕ)) (first : List ℕ) : Type 0 where
  pub rest : List (List ℕ)
  pub split : lines ≡ first ∷ rest

-- The last of these lines is the mark with this digest.
pub record EndsBy (lines : List (List ℕ)) (digest : Digest) : Type 0 where
  pub before : List (List ℕ)
  pub split : lines ≡ before ++ mark_with digest.text ∷ []

-- The log's marks and end are right, and its last mark has this digest.
pub record IsSealedBy (file : List ℕ) (digest : Digest) : Type 0 where
  pub sealed : IsSealed file
  pub last : EndsBy (recovered_lines file) digest

-- The file, if below 2^64 bytes, is damaged after these lines, or has no marks.
abbrev pub IsUnsealed : List ℕ → Prefix → Type 0
IsUnsealed file right = length file < 2 ^ 64 → IsDamagedAfter file right

-- The file has this first line, this number of lines without marks, and this digest in its last
-- mark if all marks and the end are right.
pub record IsSummary (file : List ℕ) (summary : Summary) : Type 0 where
  pub first : HasFirst (recovered_lines file) summary.first.items
  pub count : summary.lines ≡ length (said (recovered_lines file))
  pub chain : MatchResult summary.chain (IsSealedBy file) (IsUnsealed file)

-- The cause of an error: at `NoLog` the file has no line; the others have no cause here.
abbrev pub Unsummed : List ℕ → LogError → Type 0
Unsummed file NoLog = recovered_lines file ≡ []
Unsummed file (Disk error) = Unit {0}
Unsummed file Memory = Unit {0}
Unsummed file Full = Unit {0}
Unsummed file Write = ⊥
Unsummed file Told = ⊥
Unsummed file OtherSettings = ⊥
