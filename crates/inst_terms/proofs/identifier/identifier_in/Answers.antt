use Rattle.std.proofs.Common.{◌≡◌, ℕ, List, take, ◌∙◌, ap, sym, subst}
use Rattle.std.specs.Result.{result_ok}
use Rattle.inst_terms.specs.inner.Identifier.{StandsIn}
use Rattle.inst_terms.proofs.Identifiers.{stands_in_front, front_stands, identifier_found, finds_identifier, utf8_identifier}
use Rattle.inst_terms.proofs.identifier.identifier_in.Goals as goal

pub returns-in_default : goal.returns-in_default
returns-in_default c = λ id. (
  λ e. absurd (cc),
  λ h. let cs : List ℕ = c.args.characters.now in
      absurd (c.in_default.ensures.cases.0 (utf8_identifier _ id h.0
      (front_stands cs c.args.len c.told-characters c.requires.within c.requires.zeros c.requires.last id h.0 h.1))),
)

pub returns : goal.returns
returns c = λ id.
    let cs : List ℕ = c.args.characters.now in
    let len = c.args.len in
    let text : c.in-Ok.text.now ≡ take len cs = c.in-Ok.ensures.cases.0 in
    let is = c.ok.ensures.value ∙ ap result_ok c.new.ensures in (
      λ e. let found = identifier_found c.in-Ok.text.now id (sym is ∙ e) in
          (found.0, subst (λ (t : List ℕ). StandsIn t cs) (sym text ∙ found.1) (stands_in_front cs len c.told-characters c.requires.within c.requires.zeros)),
      λ h. is ∙ finds_identifier c.in-Ok.text.now id h.0 (text ∙ front_stands cs len c.told-characters c.requires.within c.requires.zeros c.requires.last id h.0 h.1),
    )
