use Rattle.std.proofs.Common.{◌∷◌, [], length, length-append, List, arith, ap, sym, ◌∙◌, refl}
use Rattle.inst_journal.specs.History.{History}
use Rattle.inst_world.specs.NextOpening.{books_of}
use Rattle.inst_program.proofs.BooksUnderChanges.{joined_same}
use Rattle.inst_program.proofs.changing.extended.Goals as goal

pub loop-number-init : goal.loop-number-init
loop-number-init c = record { many = c.requires.one_each ∙ sym c.from-number.ensures; same = λ p. refl }

pub loop-number-preserved : goal.loop-number-preserved
loop-number-preserved c =
    let l = c.loop-number in
    let pushed = c.in_ok-push.ensures.items in
    record {
      many = omega (arith, ap length pushed, length-append l.all.items (c.new.result ∷ []), l.invariant.many);
      same = λ p. ap (λ (js : List History). books_of js p) pushed ∙ joined_same l.all.items c.new.result c.new.ensures p ∙ l.invariant.same p;
    }

pub returns : goal.returns
returns c =
    let l = c.loop-number in
    record {
      most = omega (arith, l.invariant.many, c.loop-number-test.false, l.auto._number-end (omega (arith, c.from-number.ensures, c.requires.most)));
      same = l.invariant.same;
    }
