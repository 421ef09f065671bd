use Rattle.std.proofs.Common.{◌≡◌, Some, None, sym, subst, IfOk, OnErr}
use Rattle.clap.specs.Words.{first_of, found_of, rows_of}
use Rattle.inst_options.proofs.OptionTextsAndNumbers.{none_text, text_given}
use Rattle.inst_options.proofs.options.text.Goals as goal

pub returns-clause-text : goal.returns-clause-text
returns-clause-text c =
    let options = found_of c.args.options.now in
    subst (λ result. IfOk result (λ text. first_of c.args.name.now (rows_of options) ≡ Some text.now)) (sym c.ok_or.ensures.value)
    (text_given options c.args.name.now c.get_str.result _ c.get_str.ensures)

pub returns-clause-none : goal.returns-clause-none
returns-clause-none c =
    let options = found_of c.args.options.now in
    subst (λ result. OnErr result (first_of c.args.name.now (rows_of options) ≡ None)) (sym c.ok_or.ensures.value)
    (none_text options c.args.name.now c.get_str.result _ c.get_str.ensures)
