use Rattle.std.proofs.Common.{Bor, List, ℕ, ◌++◌, map, ap, sym, subst, ◌∙◌}
use Rattle.clap.specs.Words.{found_of, rows_of}
use Rattle.inst_options.specs.Options.{AreTexts}
use Rattle.inst_options.proofs.OptionTextsAndNumbers.{texts_given}
use Rattle.inst_options.proofs.options.texts.Goals as goal

pub returns : goal.returns
returns c =
    let rows = rows_of (found_of c.args.options.now) in
    let given = texts_given (found_of c.args.options.now) c.args.name.now c.get_strs.result _ c.get_strs.ensures in
    subst (λ (texts : List (Bor (List ℕ))). AreTexts c.args.name.now rows (map (λ text. text.now) texts)) (sym (c.in_ok-extend_from_slice.ensures.items ∙ ap (λ (l : List (Bor (List ℕ))). l ++ c.unwrap_or-given.result.now) c.new-texts.ensures.items))
    (subst (λ (r : Bor (List (Bor (List ℕ)))). AreTexts c.args.name.now rows (map (λ v. v.now) r.now)) (sym c.unwrap_or-given.ensures) given)
