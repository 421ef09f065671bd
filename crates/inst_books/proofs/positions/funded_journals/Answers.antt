use Rattle.std.proofs.Common.{◌≡◌, ◌∙◌, ◌<◌, ℕ, List, [], ◌∷◌, length, length-append, get_or, Option, IfSome, sym, ap, subst, arith}
use Rattle.inst_journal.specs.History.{History}
use Rattle.inst_books.specs.Positions.{IsFundedWith, position_of}
use Rattle.inst_books.specs.inner.Carrying.{AreFunded}
use Rattle.inst_books.proofs.CarriedPositions.{element, one_funded}
use Rattle.inst_books.proofs.positions.funded_journals.Goals as goal

pub loop-code-preserved : goal.loop-code-preserved
loop-code-preserved c =
    let next = c.loop-code.next.items in
    let pushed = c.in_ok-push-in-Some.ensures.items in
    let items : c.codes-code-items.result.now ≡ c.args.new.now.codes = c.codes-code-items.ensures in
    let within : c.loop-code.code-index < length c.args.new.now.codes = subst (λ (xs : List (List ℕ)). c.loop-code.code-index < length xs) items c.loop-code-test.true in
    let code : c.code-item.result ≡ get_or c.args.new.now.codes c.loop-code.code-index [] =
    element c.args.new.now.codes c.loop-code.code-index c.code-item.result within (subst (λ (xs : List (List ℕ)). c.code-item.result ≡ get_or xs c.loop-code.code-index c.code-item.result) items c.code-item.is) in
    let funded : IsFundedWith c.position_in-cents.result c.in-Some.journal.events =
    subst (λ (o : Option History). IfSome o (λ j. IsFundedWith c.position_in-cents.result j.events)) c.in-Some.is c.in_ok-journal.ensures in
    record {
      count = omega (arith, ap length pushed, length-append next (c.in-Some.journal ∷ []), c.loop-code.invariant.count);
      funded = λ books are.
          subst (AreFunded c.args.old.now books c.args.new.now.codes) (sym pushed)
          (one_funded c.args.old.now books c.args.new.now.codes next c.in-Some.journal c.position_in-cents.result funded
          (c.position_in-cents.ensures books are ∙ ap (position_of c.args.old.now books) (code ∙ ap (λ n. get_or c.args.new.now.codes n []) (sym c.loop-code.invariant.count)))
          (c.loop-code.invariant.funded books are));
    }
