use Rattle.std.proofs.Common.{ℕ, List, ◌∙◌, ap, get_or}
use Rattle.inst_terms.proofs.Identifiers.{words_of_characters}
use Rattle.inst_terms.proofs.identifier.pack_identifier.Goals as goal

pub returns-clause-words : goal.returns-clause-words
returns-clause-words c =
    let id : List ℕ = c.args.id.now in
    words_of_characters c.padded-characters.result id c.word_from.result c.word_from-2.result c.word_from-3.result c.word_from-4.result
    (λ k. c.padded-characters.ensures k ∙ ap (λ (xs : List ℕ). get_or xs k 0) (c.as_bytes-text.ensures.value ∙ c.text.ensures.value))
    c.word_from.ensures c.word_from-2.ensures c.word_from-3.ensures c.word_from-4.ensures
