use Rattle.std.proofs.Common.{ℕ, IfOk, refl, subst, sym}
use Rattle.std.specs.Prelude.{Option}
use Rattle.inst_close.specs.ClosedHub.{ClosedHub, IsClosed}
use Rattle.inst_close.specs.Closing.{IsOpenedSo}
use Rattle.std.proofs.lemmas.Result.{IfOk-weaker}
use Rattle.inst_drill.specs.inner.Chain.{AreAfter, IsAfter, opening_of}
use Rattle.inst_drill.proofs.CountOfOpenings.{from_the_books, may_open}
use Rattle.inst_drill.proofs.StaffOfOpening.{only_memory}
use Rattle.inst_drill.proofs.opening.open.Goals as goal
use Rattle.inst_drill.proofs.opening.open.Goals.{In-Some}

after : (c : In-Some) (n : ℕ) → AreAfter c.args.settings.now n c.args.books.now → IsAfter c.args.settings.now n c.in-Some.books
after c n so = subst (λ (b : Option ClosedHub). AreAfter c.args.settings.now n b) c.in-Some.is so

pub returns-in-Some-clause-opened : goal.returns-in-Some-clause-opened
returns-in-Some-clause-opened c =
    subst (λ (b : Option ClosedHub). IfOk c.open_next.result (λ r. IsOpenedSo (opening_of b) r.0)) (sym c.in-Some.is)
    (IfOk-weaker c.open_next.result _ _ (λ r next. from_the_books c.in-Some.books r.0 next) c.open_next.ensures.opened)

pub returns-in-Some-clause-only : goal.returns-in-Some-clause-only
returns-in-Some-clause-only c =
    let closed : IsClosed c.in-Some.books.settings c.in-Some.books.books =
    record { lawful = c.settings-settings.ensures.lawful; one_each = c.settings-settings.ensures.one_each; numbered = c.settings-settings.ensures.numbered; closed = c.settings-settings.ensures.closed } in
    let so = after (goal.at.returns-in-Some-clause-only c).In-Some c.requires.0 c.requires.2 in
    only_memory c.open_next.result c.open_next.ensures.only
    (λ bad. c.open_next.ensures.bad bad (may_open c.requires.0 c.in-Some.books c.args.settings.now 3 closed so c.requires.1 refl))
