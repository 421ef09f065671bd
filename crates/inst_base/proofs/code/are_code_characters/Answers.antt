use Rattle.std.proofs.Common.{◌-◌, length, nat_eq, ap, sym, ◌∙◌, arith}
use Rattle.std.proofs.lemmas.Bool.{ne_eqb}
use Rattle.inst_base.specs.Text.{is_code_character}
use Rattle.inst_base.proofs.Masks.{load_passes, load_fails, last_decides}
use Rattle.inst_base.proofs.code.are_code_characters.Goals as goal

pub returns-then-not_code_characters-eq0 : goal.returns-then-not_code_characters-eq0
returns-then-not_code_characters-eq0 c =
    let d = c.args.text.now in
    let first = load_passes is_code_character d 0 8 (sym c.not_code_characters.ensures ∙ c.if-not_code_characters-eq0.true) in
    ap (λ m. nat_eq m 0) c.not_code_characters-then-not_code_characters-eq0.ensures ∙ last_decides is_code_character d 8 (length d - 8) 8 (omega arith) (omega arith) first

pub returns-else-not_code_characters-eq0 : goal.returns-else-not_code_characters-eq0
returns-else-not_code_characters-eq0 c =
    let d = c.args.text.now in
    ne_eqb _ 0 c.if-not_code_characters-eq0.false ∙ sym (load_fails is_code_character d 0 8 (λ none. c.if-not_code_characters-eq0.false (c.not_code_characters.ensures ∙ none)))
