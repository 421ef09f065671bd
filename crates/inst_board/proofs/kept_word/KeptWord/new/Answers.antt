use Rattle.std.proofs.Common.{◌≡◌, ℕ, ◌∙◌, sym, ap, subst}
use Rattle.inst_terms.specs.Word.{IsWord, HasWordForm, word_number}
use Rattle.inst_terms.specs.declared.word.Word.{Word}
use Rattle.inst_board.specs.Standing.{Standing, unused, pending, decided, IsLawful, word_of}
use Rattle.inst_board.specs.Plain.{standing_of}
use Rattle.inst_board.specs.declared.plain.Kept.{Kept}
use Rattle.inst_board.proofs.kept_word.KeptWord.new.Goals as goal

lawful_word : (margin : ℕ) (p : Standing) → IsLawful margin p → HasWordForm (word_of p) → IsWord (word_of p)
lawful_word margin unused lawful form = tt
lawful_word margin (pending terms deadline) lawful form = (lawful, form)
lawful_word margin (decided terms deadline outcome at) lawful form = form

pub invariant_of-result : goal.invariant_of-result
invariant_of-result c =
    let p : Standing = standing_of c.args.kept.now in
    subst (λ (k : Kept). IsWord (word_of (standing_of k)) × (word_number (word_of (standing_of k)) ≡ c.pack_outcome.result)) (sym c.of.ensures) (
      lawful_word c.requires.0 p c.requires.1 (subst (λ (w : Word). HasWordForm w) c.word_of.ensures c.pack_outcome.ensures.form),
      sym (c.pack_outcome.ensures.number ∙ ap word_number c.word_of.ensures),
    )
