use Rattle.std.proofs.Common.{◌≡◌, ◌∙◌, Option, IfSome, sym, ap, subst, arith}
use Rattle.inst_journal.specs.Money.{position, reserved}
use Rattle.inst_ledger.specs.Book.{LedgerBook}
use Rattle.inst_books.proofs.positions.settled_position.Goals as goal

pub returns : goal.returns
returns c =
    let J = c.args.journal.now.events in
    let kept : c.in-Some.replay.events ≡ J = subst (λ (o : Option LedgerBook). IfSome o (λ l. l.events ≡ J)) c.in-Some.is c.in_ok-replay.ensures.same in
    let same : c.into_ledger-ledger.result.book.events ≡ J = ap (λ (b : LedgerBook). b.events) c.into_ledger-ledger.ensures ∙ kept in
    let zero : c.reserved.result ≡ 0 = omega (arith, c.if-reserved-gt0.false) in
    (c.position.ensures.value ∙ ap (λ J. position J) same, sym (ap (λ J. reserved J) same) ∙ sym c.reserved.ensures.value ∙ zero)
