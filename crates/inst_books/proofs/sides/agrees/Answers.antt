use Rattle.std.proofs.Common.{sym, subst, IsTrue, ◌↔◌}
use Rattle.inst_journal.specs.declared.event.Event.{Event}
use Rattle.inst_books.specs.inner.Agreeing.{IsSent, Agrees, ledger_histories}
use Rattle.inst_books.proofs.sides.agrees.Goals as goal

pub returns-in-Forwarded : goal.returns-in-Forwarded
returns-in-Forwarded c =
    let i = c.in-Forwarded in
    subst (λ (e : Event). IsTrue c.is_sent.result ↔ Agrees c.args.limit (ledger_histories c.args.ledgers.now) c.args.who e) (sym i.is)
    (subst (λ o. IsTrue c.is_sent.result ↔ IsSent c.args.limit c.args.who i.cents i.deadline o) c.sending.ensures c.is_sent.ensures)
