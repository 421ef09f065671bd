use Rattle.std.proofs.Common.{◌≡◌, ◌^◌, ℕ, List, true, ◌∙◌, sym, subst, nat_lt, arith}
use Rattle.std.proofs.lemmas.Grind.{common_steps}
use Rattle.std.specs.List.{list_all}
use Rattle.inst_terms.proofs.Identifiers.{words_are, words_stand, words_below}
use Rattle.inst_terms.proofs.identifier.read_identifier.Goals as goal

pub returns-then-not-are_below_limit : goal.returns-then-not-are_below_limit
returns-then-not-are_below_limit c = λ id. (
  λ e. absurd (cc),
  λ h. let below = subst (λ (ws : List ℕ). list_all (λ word. nat_lt word (2 ^ 63)) ws ≡ true) h.1 (words_below id h.0) in
      let found = c.are_below_limit.ensures in let not = c.if-not-are_below_limit.true in absurd (cc),
)

pub returns : goal.returns
returns c = λ id.
    let ws : List ℕ = c.args.words.now in
    let reads = c.identifier_in.ensures id in
    let below : list_all (λ word. nat_lt word (2 ^ 63)) ws ≡ true = sym c.are_below_limit.ensures ∙ c.if-not-are_below_limit.false in (
      λ e. let h = reads.0 e in (h.0, words_are ws c.characters_of.result c.told-words c.characters_of.ensures below id h.1),
      λ h. reads.1 (h.0, words_stand ws c.characters_of.result c.told-words c.characters_of.ensures id h.0 h.1),
    )

pub identifier_in-requires-clause-zeros : goal.identifier_in-requires-clause-zeros
identifier_in-requires-clause-zeros c = grind (arith, common_steps)
