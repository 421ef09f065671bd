-- Right marks. A log of version 1 has no marks, so everything holds for it. A choice of this hub.
use Rattle.std.specs.Prelude.{◌≡◌, List, ℕ}
use Rattle.inst_log.specs.Layout.{recovered_lines, IsShut}
use Rattle.inst_chain.specs.Chain.{IsChain, IsTaken}
use Rattle.inst_chain.specs.Verifying.{SealedBy}
use Rattle.inst_chain.specs.declared.marker.Marker.{Marker}
use Rattle.inst_logged.specs.declared.version.Version.{Version}
use Rattle.inst_logged.specs.declared.version.Version.TheVariants.{One, Two}

-- The file isn't a damaged log: it has no line, or its marks and end are right.
abbrev pub IsIntact : Version → List ℕ → Type 0
IsIntact One file = Unit {0}
IsIntact Two file = IsTaken file

-- The log's marks and end are right, and this marker makes the next mark.
abbrev pub IsIntactBy : Version → List ℕ → Marker → Type 0
IsIntactBy One file marker = Unit {0}
IsIntactBy Two file marker = SealedBy file marker

-- A log of exactly these lines has right marks, and this marker makes the next one.
pub record IsFirstMark (header : List ℕ) (marker : Marker) : Type 0 where
  pub chain : (file : List ℕ) → recovered_lines file ≡ recovered_lines header →
      IsChain (recovered_lines file)
  pub sealed : (file : List ℕ) → recovered_lines file ≡ recovered_lines header → IsShut file →
      SealedBy file marker

-- The marker is right for a log of these first lines.
abbrev pub BeginsWithMarker : Version → List ℕ → Marker → Type 0
BeginsWithMarker One header marker = Unit {0}
BeginsWithMarker Two header marker = IsFirstMark header marker
