use Rattle.std.proofs.Common.{List, ℕ}
use Rattle.inst_base.proofs.TextBeforeZeros.{IsKept-front}
use Rattle.inst_base.proofs.short_text.ShortText.new.Goals as goal

pub invariant_of-result : goal.invariant_of-result
invariant_of-result g c =
    let text : List ℕ = c.args.text.now in
    rw (c.copy_from_slice.ensures.after, c.as_bytes.ensures.value) (IsKept-front g.row.N text c.requires.fits c.requires.ascii)
