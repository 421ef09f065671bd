use Rattle.inst_journal.specs.declared.event.Event.{Event}
use Rattle.inst_ledger.proofs.LedgerStaysRight.{opened_beside, beside_at, fits_at}
use Rattle.inst_ledger.proofs.StatementLineOfEvent.{stated_at}
use Rattle.inst_statement.proofs.KeptStatementStaysRight.{line_anew}
use Rattle.inst_ledger.proofs.ledger.Ledger.keep_opened.Goals as goal

pub invariant_of-self-2 : goal.invariant_of-self-2
invariant_of-self-2 c =
    let i = c.self.inside in
    let fits = fits_at c.self.view_is Event.Opened c.requires in
    record {
      beside = beside_at c.in_ok-push.ensures.ok (opened_beside i.settings.value i.who i.journal.events i.totals i.table _ i.fundings i.inbox.items i.read c.self.invariant.beside c.begin-2.new.self fits c.begin-2.ensures.who c.begin-2.ensures.state);
      lines = stated_at c.in_ok-push.ensures.ok
          (line_anew i.settings.value i.who i.journal.events i.statement c.begin.new.self c.self.invariant.beside.sound fits c.begin.ensures.lines c.begin.ensures.begun c.self.invariant.lines);
    }
