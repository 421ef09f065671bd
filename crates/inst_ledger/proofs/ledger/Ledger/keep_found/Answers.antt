use Rattle.std.proofs.Common.{length, refl, ap, sym, ◌∙◌, arith, subst}
use Rattle.inst_journal.specs.declared.event.Event.{Event}
use Rattle.inst_transfers.specs.Held.{IsFound}
use Rattle.inst_ledger.specs.Book.{BookAndRoom}
use Rattle.inst_ledger.proofs.LedgerStaysRight.{covers, booked_beside, beside_at, fits_at}
use Rattle.inst_ledger.proofs.StatementLineOfEvent.{stated_at, ledger_same, booking_moves, may_add_if, added_if}
use Rattle.inst_statement.proofs.Indices.{index_fits}
use Rattle.inst_statement.proofs.KeptStatementStaysRight.{stated_same}
use Rattle.inst_ledger.proofs.ledger.Ledger.keep_found.Goals as goal

pub invariant_of-self-in_err-push : goal.invariant_of-self-in_err-push
invariant_of-self-in_err-push c = ledger_same c.in_err-push.ensures.err _ refl (λ _. refl) refl c.reserve.ensures.lines c.reserve.ensures.begun c.self.invariant

pub overflow_cast-index : goal.overflow_cast-index
overflow_cast-index c =
    let i = c.self.inside in
    omega (arith, ap length c.events.ensures, index_fits i.settings.value i.who i.journal.events c.self.invariant.beside.lawful c.self.invariant.beside.sound)

pub book-requires-clause-covers : goal.book-requires-clause-covers
book-requires-clause-covers c =
    let i = c.self.inside in
    let f = c.args.found.now in
    let o = c.args.outcome.now in
    let fits = fits_at c.self.view_is (Event.Booked f.from f.id o) c.requires.fits in
    let there = subst (λ (x : BookAndRoom). IsFound x.table f) (sym c.self.view_is) c.requires.there in
    covers i.settings.value i.who i.journal.events i.totals i.table _ i.fundings i.inbox.items i.read c.self.invariant.beside f o there fits (omega (arith, c.get.ensures.value, c.get.ensures.within)) (omega (arith, c.events.type_inv, ap length c.events.ensures))

pub add_line-requires : goal.add_line-requires
add_line-requires c =
    let i = c.self.inside in
    let f = c.args.found.now in
    let o = c.args.outcome.now in
    let fits = fits_at c.self.view_is (Event.Booked f.from f.id o) c.requires.fits in
    let there = subst (λ (x : BookAndRoom). IsFound x.table f) (sym c.self.view_is) c.requires.there in
    may_add_if i.settings.value i.who i.journal.events i.totals i.table _ i.fundings i.inbox.items i.read c.self.invariant.beside f.from f.id o _ c.reserve.new.self
    (booking_moves i.settings.value i.who i.journal.events i.totals i.table _ i.fundings i.inbox.items i.read c.self.invariant.beside f.from f.id o f.transfer fits there.transfer ∙ sym c.movement_booked.ensures)
    fits (stated_same _ _ c.reserve.ensures.lines c.reserve.ensures.begun c.self.invariant.lines) c.in_ok-reserve.ensures.room

pub invariant_of-self-2 : goal.invariant_of-self-2
invariant_of-self-2 c =
    let i = c.self.inside in
    let f = c.args.found.now in
    let o = c.args.outcome.now in
    let fits = fits_at c.self.view_is (Event.Booked f.from f.id o) c.requires.fits in
    let there = subst (λ (x : BookAndRoom). IsFound x.table f) (sym c.self.view_is) c.requires.there in
    record {
      beside = beside_at c.in_ok-push.ensures.ok (booked_beside i.settings.value i.who i.journal.events i.totals i.table _ i.fundings i.inbox.items i.read c.self.invariant.beside f o c.book.new.self there fits (omega (arith, c.get.ensures.value, c.get.ensures.within)) c.book.ensures.who c.book.ensures.state);
      lines = stated_at c.in_ok-push.ensures.ok
          (added_if i.settings.value i.who i.journal.events i.totals i.table _ i.fundings i.inbox.items i.read c.self.invariant.beside f.from f.id o _ _ c.reserve.new.self c.add_line.new.statement
          (booking_moves i.settings.value i.who i.journal.events i.totals i.table _ i.fundings i.inbox.items i.read c.self.invariant.beside f.from f.id o f.transfer fits there.transfer ∙ sym c.movement_booked.ensures)
          fits (ap length c.events.ensures) (stated_same _ _ c.reserve.ensures.lines c.reserve.ensures.begun c.self.invariant.lines) c.add_line.ensures);
    }
