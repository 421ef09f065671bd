use Rattle.std.proofs.Common.{◌-◌, length, nat_eq, ap, sym, ◌∙◌, arith}
use Rattle.inst_base.specs.Text.{is_latin}
use Rattle.inst_base.proofs.Masks.{load_passes, load_fails, last_decides}
use Rattle.inst_base.proofs.ident.are_latin.Goals as goal

pub returns-then-not_latin-ne0 : goal.returns-then-not_latin-ne0
returns-then-not_latin-ne0 c =
    sym (load_fails is_latin c.args.text.now c.loop-at.at 16 (λ none. c.if-not_latin-ne0.true (c.not_latin.ensures ∙ none)))

pub loop-at-preserved : goal.loop-at-preserved
loop-at-preserved c =
    c.loop-at.invariant ∙ load_passes is_latin c.args.text.now c.loop-at.at 16 (sym c.not_latin.ensures ∙ c.if-not_latin-ne0.false)

pub returns : goal.returns
returns c =
    let d = c.args.text.now in
    ap (λ m. nat_eq m 0) c.not_latin-2.ensures ∙ last_decides is_latin d c.loop-at.at (length d - 16) 16 (omega arith) (omega arith) c.loop-at.invariant
