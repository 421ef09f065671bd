-- A file of which some lines or all were checked.
use Rattle.std.specs.Prelude.{◌≡◌, ◌<◌, ◌^◌, ℕ, List, Option, false, length}
use Rattle.inst_log.specs.Pieces.{IsReading, has_more}
use Rattle.inst_log.specs.declared.file_lines.FileLines.{FileLines}
use Rattle.inst_chain.specs.Chain.{has_wanted}
use Rattle.inst_chain.specs.Checking.{HasGoneThrough}
use Rattle.inst_chain.specs.declared.checker.Checker.{Checker}
use Rattle.inst_chain.specs.declared.digest.Digest.{Digest}
use Rattle.inst_chain.specs.declared.verifying.Started.{Started}

-- The file was read up to some line, the checker has taken the lines so far, and it is known if the
-- wanted mark is among them.
pub record HasStarted (file : List ℕ) (wanted : Option Digest) (started : Started) : Type 0 where
  pub done : List (List ℕ)
  pub reading : IsReading file started.lines done
  pub stands : HasGoneThrough started.checker done
  pub is_wanted : started.has_wanted ≡ has_wanted wanted done

-- The file was read to the end of its lines, and the checker has taken them all.
pub record IsChecked (file : List ℕ) (lines : FileLines) (checker : Checker) : Type 0 where
  pub done : List (List ℕ)
  pub reading : IsReading file lines done
  pub ended : has_more lines ≡ false
  pub stands : HasGoneThrough checker done
  pub fits : length file < 2 ^ 64
