use Rattle.std.proofs.Common.{◌≡◌, ◌++◌, ◌∷◌, [], refl, subst, arith}
use Rattle.std.specs.Prelude.{OnOk}
use Rattle.inst_journal.specs.declared.event.Event.{Event}
use Rattle.inst_ledger.proofs.LedgerStaysRight.{within, sums_small, paid_small, taken_absent, taken_beside, beside_at, fits_at}
use Rattle.inst_ledger.proofs.StatementLineOfEvent.{stated_at}
use Rattle.inst_statement.proofs.KeptStatementStaysRight.{line_less}
use Rattle.inst_ledger.proofs.ledger.Ledger.keep_taken.Goals as goal

pub take-requires-clause-new : goal.take-requires-clause-new
take-requires-clause-new c =
    let i = c.self.inside in
    let t = c.args.sending in
    let fits = fits_at c.self.view_is (Event.Taken c.args.id t.to t.cents t.stamp) c.requires.fits in
    taken_absent i.settings.value i.who i.journal.events i.totals i.table _ i.fundings i.inbox.items i.read c.self.invariant.beside c.args.id fits.new

pub take-requires-clause-fits : goal.take-requires-clause-fits
take-requires-clause-fits c =
    let i = c.self.inside in
    let t = c.args.sending in
    let fits = fits_at c.self.view_is (Event.Taken c.args.id t.to t.cents t.stamp) c.requires.fits in
    let b = c.self.invariant.beside in
    omega (arith, within i.settings.value i.who i.journal.events i.totals i.table _ i.fundings i.inbox.items i.read b, sums_small i.settings.value i.who i.journal.events i.totals i.table _ i.fundings i.inbox.items i.read b, paid_small i.settings.value i.who i.journal.events i.totals i.table _ i.fundings i.inbox.items i.read b t.cents fits.cover)

pub invariant_of-self : goal.invariant_of-self
invariant_of-self c =
    let i = c.self.inside in
    let t = c.args.sending in
    let event = Event.Taken c.args.id t.to t.cents t.stamp in
    let fits = fits_at c.self.view_is event c.requires.fits in
    let events : c.push.new.self.events ≡ i.journal.events ++ event ∷ [] =
    subst (λ r. OnOk r (c.push.new.self.events ≡ i.journal.events ++ event ∷ [])) c.unwrap.ensures c.push.ensures.ok in
    record {
      beside = beside_at events (taken_beside i.settings.value i.who i.journal.events i.totals i.table _ i.fundings i.inbox.items i.read c.self.invariant.beside c.args.id t.to t.cents t.stamp c.take.new.self fits c.take.ensures.who c.take.ensures.state);
      lines = stated_at events (line_less i.settings.value i.who i.journal.events event c.self.invariant.beside.sound fits i.statement i.statement refl refl refl refl c.self.invariant.lines);
    }
