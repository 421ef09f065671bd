-- A log whose end has no closed byte yet.
use Rattle.std.specs.Prelude.{◌≡◌, ℕ, List, ◌++◌, length}
use Rattle.inst_base.specs.Newline.{NoNewline}
use Rattle.inst_log.specs.Layout.{recovered_lines, blocks}

-- No newline follows the lines of the file.
pub record IsUnclosed (file : List ℕ) (end : ℕ) : Type 0 where
  pub rest : List ℕ
  pub split : file ≡ blocks (recovered_lines file) ++ rest
  pub quiet : NoNewline rest
  pub ends : end ≡ length (blocks (recovered_lines file))
