use Rattle.std.proofs.Common.{◌++◌, sym, ◌∙◌, refl}
use Rattle.std.proofs.lemmas.Slice.Eq.{bytes_eq-Decides}
use Rattle.inst_chain.specs.Chain.{front_of}
use Rattle.inst_log.specs.Layout.{blocks}
use Rattle.inst_chain.proofs.ProgressOfChecker.{plain_stands, mark_stands}
use Rattle.inst_chain.proofs.checker.Checker.check.Goals as goal

pub returns-then-not-is_mark-clause-right : goal.returns-then-not-is_mark-clause-right
returns-then-not-is_mark-clause-right c = λ _ lines s.
    plain_stands c.args.self.now _ lines c.args.line.now (sym c.is_mark.ensures ∙ c.if-not-is_mark.true) refl refl c.add.ensures
    (λ text digests. c.add-then-not-is_mark-2.ensures _ (c.add-then-not-is_mark.ensures text digests)) s

pub returns-then-not-is_right-clause-wrong : goal.returns-then-not-is_right-clause-wrong
returns-then-not-is_right-clause-wrong c = λ _ lines s is.
    let text = front_of s.older ++ blocks s.part in
    let same = c.as_slice.ensures ∙ c.mark.ensures.mark text s.digests ∙ sym is in
    cc (c.eq-is_right.ensures, (bytes_eq-Decides c.as_slice.result.now c.args.line.now).1 same, c.if-not-is_right.true)

pub returns-clause-right : goal.returns-clause-right
returns-clause-right c = λ _ lines s.
    let text = front_of s.older ++ blocks s.part in
    let same = (bytes_eq-Decides c.as_slice.result.now c.args.line.now).0 (sym c.eq-is_right.ensures ∙ c.if-not-is_right.false) in
    mark_stands c.args.self.now _ lines c.args.line.now refl refl c.add.ensures s (sym same ∙ c.as_slice.ensures ∙ c.mark.ensures.mark text s.digests)
    (c.mark.ensures.next text s.digests)
