use Rattle.std.proofs.Common.{refl, sym, ap, arith, length, ◌∙◌, ◌++◌, ◌∷◌, []}
use Rattle.inst_journal.specs.declared.event.Event.{Event}
use Rattle.inst_transfers.specs.Held.{Held, found_at}
use Rattle.inst_ledger.proofs.LedgerStaysRight.{forwarded_absent, forwarded_beside, beside_same, pushed, fits_at}
use Rattle.inst_ledger.proofs.StatementLineOfEvent.{stated_at, ledger_same}
use Rattle.inst_statement.proofs.KeptStatementStaysRight.{line_less}
use Rattle.inst_ledger.proofs.ledger.Ledger.keep_forwarded.Goals as goal

pub invariant_of-self-in_err-reserve-2 : goal.invariant_of-self-in_err-reserve-2
invariant_of-self-in_err-reserve-2 c = ledger_same c.reserve.ensures.events _ c.reserve-2.ensures.same (λ _. refl) c.try_reserve.ensures.items refl refl c.self.invariant

pub deliver-requires-clause-new : goal.deliver-requires-clause-new
deliver-requires-clause-new c =
    let i = c.self.inside in
    let e = c.args.entry in
    let fits = fits_at c.self.view_is (Event.Forwarded e.from e.id e.cents e.deadline) c.requires in
    ap (λ (h : Held). found_at h.entries (e.from, e.id)) c.reserve-2.ensures.same ∙ forwarded_absent i.settings.value i.who i.journal.events i.totals i.table _ i.fundings i.inbox.items i.read c.self.invariant.beside e.from e.id fits.another fits.new

pub invariant_of-self-2 : goal.invariant_of-self-2
invariant_of-self-2 c =
    let i = c.self.inside in
    let e = c.args.entry in
    let event = Event.Forwarded e.from e.id e.cents e.deadline in
    let fits = fits_at c.self.view_is event c.requires in
    let events = pushed event c.reserve.ensures.events c.in_ok-push.ensures.ok in
    let before = beside_same refl _ c.reserve-2.ensures.same (λ _. refl) refl c.self.invariant.beside in
    let at = c.len-position.ensures.count ∙ sym (ap (λ (h : Held). length h.entries) c.reserve-2.ensures.same) in
    let after = forwarded_beside i.settings.value i.who i.journal.events i.totals c.reserve-2.new.self _ i.fundings i.inbox.items i.read before e.from e.id e.cents e.deadline c.len-position.result c.deliver.new.self at fits (omega (arith, c.get.ensures.value, c.get.ensures.within)) c.deliver.ensures.who c.deliver.ensures.state in
    record {
      beside = beside_same events _ refl (λ _. refl) (c.push_reserved.ensures.items ∙ ap (λ xs. xs ++ c.len-position.result ∷ []) c.try_reserve.ensures.items) after;
      lines = stated_at events (line_less i.settings.value i.who i.journal.events event c.self.invariant.beside.sound fits i.statement i.statement refl refl refl refl c.self.invariant.lines);
    }
