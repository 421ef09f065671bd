use Rattle.std.proofs.Common.{refl, arith}
use Rattle.std.proofs.lemmas.Grind.{common_steps}
use Rattle.inst_journal.specs.declared.event.Event.{Event}
use Rattle.inst_ledger.proofs.LedgerStaysRight.{fetched_beside, beside_at, fits_at}
use Rattle.inst_ledger.proofs.StatementLineOfEvent.{stated_at}
use Rattle.inst_statement.proofs.KeptStatementStaysRight.{line_less}
use Rattle.inst_ledger.proofs.ledger.Ledger.keep_fetched.Goals as goal

pub invariant_of-self-2 : goal.invariant_of-self-2
invariant_of-self-2 c =
    let i = c.self.inside in
    let event = Event.Fetched c.args.count in
    let fits = fits_at c.self.view_is event c.requires in
    record {
      beside = beside_at c.in_ok-push.ensures.ok (fetched_beside i.settings.value i.who i.journal.events i.totals i.table _ i.fundings i.inbox.items i.read c.self.invariant.beside c.args.count fits);
      lines = stated_at c.in_ok-push.ensures.ok (line_less i.settings.value i.who i.journal.events event c.self.invariant.beside.sound fits i.statement i.statement refl refl refl refl c.self.invariant.lines);
    }

pub overflow_add-self : goal.overflow_add-self
overflow_add-self c = grind (arith, common_steps)
