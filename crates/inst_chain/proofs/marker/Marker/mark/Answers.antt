use Rattle.inst_chain.specs.Chain.{is_mark}
use Rattle.std.proofs.Common.{◌≡◌, true, arith, [], ◌∷◌, ◌++◌, List, ℕ, sym, subst}
use Rattle.inst_log.specs.Layout.{recovered_lines}
use Rattle.inst_chain.proofs.Digests.{mark_line, mark_by}
use Rattle.inst_chain.proofs.marker.Marker.mark.Goals as goal

pub returns-clause-line : goal.returns-clause-line
returns-clause-line c = subst (λ (l : List ℕ). recovered_lines (l ++ 10 ∷ []) ≡ l ∷ []) (sym c.mark_by-mark.ensures.mark) (mark_line c.finalize_reset.result c.mark_by-mark.ensures.bytes)

pub returns-clause-is : goal.returns-clause-is
returns-clause-is c =
    subst (λ (l : List ℕ). is_mark l ≡ true) (sym c.mark_by-mark.ensures.mark) (mark_by c.finalize_reset.result c.mark_by-mark.ensures.bytes (omega arith))
