use Rattle.std.proofs.Common.{◌≤◌, ◌++◌, [], ◌∷◌, Some, length, refl, ap, sym, ◌∙◌, arith}
use Rattle.inst_base.specs.declared.cents.TheConstants.{MOST_CENTS}
use Rattle.inst_journal.specs.declared.event.Event.{Event}
use Rattle.inst_ledger.specs.inner.Beside.{funding_event}
use Rattle.inst_ledger.proofs.LedgerStaysRight.{within, funding_beside, beside_at, pushed, fits_at}
use Rattle.inst_ledger.proofs.StatementLineOfEvent.{stated_at, ledger_same, may_add, movement_is, amount_small}
use Rattle.inst_statement.proofs.Indices.{index_fits}
use Rattle.inst_statement.proofs.KeptStatementStaysRight.{stated_same, line_added}
use Rattle.inst_ledger.proofs.ledger.Ledger.keep_funding.Goals as goal

pub invariant_of-self-in_err-reserve-2 : goal.invariant_of-self-in_err-reserve-2
invariant_of-self-in_err-reserve-2 c = ledger_same c.reserve.ensures.events _ refl (λ _. refl) refl c.reserve-2.ensures.lines c.reserve-2.ensures.begun c.self.invariant

pub invariant_of-self-in_err-put : goal.invariant_of-self-in_err-put
invariant_of-self-in_err-put c = ledger_same c.reserve.ensures.events _ refl c.in_err-put.ensures.err refl c.reserve-2.ensures.lines c.reserve-2.ensures.begun c.self.invariant

pub overflow_cast-index : goal.overflow_cast-index
overflow_cast-index c =
    let i = c.self.inside in
    omega (arith, ap length c.events.ensures, index_fits i.settings.value i.who i.journal.events c.self.invariant.beside.lawful c.self.invariant.beside.sound)

pub keep-requires-clause-funded : goal.keep-requires-clause-funded
keep-requires-clause-funded c =
    let i = c.self.inside in
    omega (arith, within i.settings.value i.who i.journal.events i.totals i.table _ i.fundings i.inbox.items i.read c.self.invariant.beside, c.self.invariant.beside.within, c.get.ensures.within, c.events.type_inv, ap length c.events.ensures)

pub keep-requires-clause-defunded : goal.keep-requires-clause-defunded
keep-requires-clause-defunded c =
    let i = c.self.inside in
    omega (arith, within i.settings.value i.who i.journal.events i.totals i.table _ i.fundings i.inbox.items i.read c.self.invariant.beside, c.self.invariant.beside.within, c.get.ensures.within, c.events.type_inv, ap length c.events.ensures)

pub add-requires : goal.add-requires
add-requires c =
    let i = c.self.inside in
    let event = funding_event c.args.is_defunding c.args.funding in
    may_add i.settings.value i.who i.journal.events i.totals i.table _ i.fundings i.inbox.items i.read c.self.invariant.beside event _ c.reserve-2.new.self (movement_is i.journal.events c.args.is_defunding c.args.funding ∙ ap Some (sym c.funding_movement-movement.ensures)) (fits_at c.self.view_is event c.requires) (amount_small c.args.is_defunding c.args.funding (omega (arith, c.get.ensures.value, c.get.ensures.within))) (stated_same _ _ c.reserve-2.ensures.lines c.reserve-2.ensures.begun c.self.invariant.lines) c.in_ok-reserve-2.ensures.room

pub invariant_of-self-2 : goal.invariant_of-self-2
invariant_of-self-2 c =
    let i = c.self.inside in
    let b = c.args.is_defunding in
    let event = funding_event b c.args.funding in
    let fits = fits_at c.self.view_is event c.requires in
    let events = pushed event c.reserve.ensures.events (c.in_ok-push.ensures.ok ∙ ap (λ (e : Event). c.reserve.new.self.events ++ e ∷ []) c.funding_event-event.ensures) in
    let most : c.args.funding.cents ≤ MOST_CENTS = omega (arith, c.get.ensures.value, c.get.ensures.within) in
    let beside = funding_beside i.settings.value i.who i.journal.events i.totals i.table _ i.fundings i.inbox.items i.read c.self.invariant.beside b c.args.funding c.get.result _ _ c.keep.ensures c.get.ensures.value fits most c.in_ok-put.ensures.ok in
    record {
      beside = beside_at events beside;
      lines = stated_at events
          (line_added i.settings.value i.who i.journal.events event c.self.invariant.beside.sound fits _ _ c.reserve-2.new.self c.add.new.self (movement_is i.journal.events b c.args.funding ∙ ap Some (sym c.funding_movement-movement.ensures)) (ap length c.events.ensures)
          (stated_same _ _ c.reserve-2.ensures.lines c.reserve-2.ensures.begun c.self.invariant.lines) c.add.ensures);
    }
