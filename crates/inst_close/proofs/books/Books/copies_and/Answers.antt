use Rattle.std.proofs.Common.{◌≡◌, ◌+◌, ℕ, arith, length, ◌∙◌, subst}
use Rattle.inst_close.specs.inner.NextOpening.{AreCopiesAnd}
use Rattle.inst_close.proofs.CopiesOfBooks.{one_more_empty}
use Rattle.inst_close.proofs.books.Books.copies_and.Goals as goal

pub loop-init : goal.loop-init
loop-init c =
    let copied = c.in_ok-journals.ensures.ok in
    let none : length c.args.self.now.books ≡ length c.args.self.now.books + 0 = omega arith in
    record { one_each = copied.one_each ∙ none; same = copied.same }

pub loop-preserved : goal.loop-preserved
loop-preserved c = one_more_empty c.args.self.now.books c.loop.journals.items c.push.new.self.items c.loop.counter c.new.result c.new.ensures c.in_ok-push.ensures.items c.loop.invariant

pub returns : goal.returns
returns c =
    let all : c.loop.counter ≡ c.args.more = omega (arith, c.loop-test.false, c.loop.auto.counter-end) in
    record {
      ok = subst (λ (n : ℕ). AreCopiesAnd c.args.self.now.books n c.loop.journals.items) all c.loop.invariant;
    }
