use Rattle.std.proofs.Common.{◌≡◌, ◌+◌, ◌++◌, ◌∷◌, [], length, ap, arith, length-append}
use Rattle.inst_log.specs.Layout.{blocks}
use Rattle.inst_log.proofs.Lines.{blocks-append}
use Rattle.inst_log.proofs.Pieces.{blocks_long}
use Rattle.inst_chain.proofs.prefix.Prefix.add.Goals as goal

pub returns : goal.returns
returns c = λ lines counts small.
    let line = c.args.line.now in
    let size : length (blocks (lines ++ line ∷ [])) ≡ length (blocks lines) + (length line + 1) =
    omega (arith, ap length (blocks-append lines (line ∷ [])), length-append (blocks lines) (blocks (line ∷ [])), length-append line (10 ∷ [])) in
    let before = counts (omega (arith, small, size)) in (
      omega (arith, small, size, before.0, blocks_long (lines ++ line ∷ []), length-append lines (line ∷ []), c.saturating_add-self.ensures),
      omega (arith, small, size, before.1, c.saturating_add.ensures, c.saturating_add-self-2.ensures),
    )
