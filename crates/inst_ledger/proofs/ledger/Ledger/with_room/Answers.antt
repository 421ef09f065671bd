use Rattle.std.proofs.Common.{subst, sym}
use Rattle.inst_settings.specs.Settings.{HubSettings}
use Rattle.inst_settings.specs.Lawful.{IsSettings}
use Rattle.inst_ledger.proofs.LedgerOfNoEvents.{begun}
use Rattle.inst_ledger.proofs.StatementLineOfEvent.{stated_at}
use Rattle.inst_statement.proofs.KeptStatementStaysRight.{nothing_stated}
use Rattle.inst_ledger.proofs.ledger.Ledger.with_room.Goals as goal

pub invariant_of-result : goal.invariant_of-result
invariant_of-result c =
    record {
      beside = begun c.in_ok-boxed.field-0.value c.args.who c.in_ok-journal.journal.events c.new.result c.new-2.result _
          c.new-4.result.items
          (subst (λ (s : HubSettings). IsSettings s) (sym c.in_ok-boxed.ensures.ok) c.in_ok-boxed.ensures.lawful)
          c.in_ok-journal.ensures.events c.new.ensures c.new-2.ensures.who c.new-2.ensures.state c.new-3.ensures
          c.new-4.ensures.items;
      lines = stated_at c.in_ok-journal.ensures.events
          (nothing_stated c.new-5.result c.new-5.ensures.lines c.new-5.ensures.begun);
    }
