use Rattle.std.proofs.Common.{ℕ, List, ◌++◌, ◌∙◌, ap, length, get_or, drop, replicate}
use Rattle.inst_terms.proofs.Identifiers.{zeros_behind}
use Rattle.inst_terms.proofs.identifier.padded.Goals as goal

pub returns : goal.returns
returns c = λ k.
    let text : List ℕ = c.args.text.now in
    ap (λ (xs : List ℕ). get_or (xs ++ drop (length text) (replicate 36 0)) k 0) c.copy_from_slice.ensures.after ∙ zeros_behind text (length text) 36 k
