-- The result of verifying a file. A choice of this hub.
use Rattle.std.specs.Prelude.{◌≡◌, ◌<◌, ◌∷◌, ℕ, List, [], ◌++◌, length, MatchOption}
use Rattle.inst_log.specs.Layout.{recovered_lines, blocks}
use Rattle.inst_log.specs.Log.{HasCause}
use Rattle.inst_log.specs.Pieces.{IsExtent}
use Rattle.inst_chain.specs.Chain.{mark_of, front_of, chained_lines, HasNoMark, HaveNoMark}
use Rattle.inst_chain.specs.Chain.{IsSealed}
use Rattle.inst_chain.specs.Checking.{Digests}
use Rattle.inst_chain.specs.declared.marker.Marker.{Marker}
use Rattle.inst_chain.specs.declared.prefix.Prefix.{Prefix}
use Rattle.inst_chain.specs.declared.verifying.Verified.{Verified}
use Rattle.inst_chain.specs.declared.error.ChainError.{ChainError}
use Rattle.inst_chain.specs.declared.error.ChainError.TheVariants.{Log, Damaged}

-- The log's marks and end are right, and this marker makes its next mark.
pub record SealedBy (file : List ℕ) (marker : Marker) : Type 0 where
  pub sealed : IsSealed file
  pub digests : Digests marker (front_of sealed.chain.batches)

-- The file has no line, or its marks and end are right; this is its extent.
pub record IsFoundVerified (file : List ℕ) (verified : Verified) : Type 0 where
  pub extent : IsExtent file verified.extent
  pub marker : MatchOption verified.marker (recovered_lines file ≡ []) (λ marker.
      SealedBy file marker)

-- The file is damaged after this number of lines and bytes. These are batches with right marks,
-- what follows doesn't begin with a further one, and the file isn't a log whose marks and end are
-- right.
pub record IsDamagedAfter (file : List ℕ) (right : Prefix) : Type 0 where
  pub older : List (List (List ℕ))
  pub unmarked : HaveNoMark older
  pub rest : List (List ℕ)
  pub lines : recovered_lines file ≡ chained_lines older ++ rest
  pub count : right.lines ≡ length (chained_lines older)
  pub bytes : right.bytes ≡ length (blocks (chained_lines older))
  pub wrong : (batch late : List (List ℕ)) → HasNoMark batch →
      rest ≡ batch ++ mark_of (front_of older ++ blocks batch) ∷ late → ⊥
  pub some : 0 < length (recovered_lines file)
  pub not_sealed : IsSealed file → ⊥

-- The cause of an error: the disk failed, an allocation failed, or the file is damaged.
abbrev pub Unverified : List ℕ → Type 0 → Type 0 → ChainError → Type 0
Unverified file clean failed (Log error) = HasCause (clean → failed) (Unit {0}) ⊥ error
Unverified file clean failed (Damaged right) = clean → IsDamagedAfter file right
