use Rattle.std.proofs.Common.{sym, subst, IsTrue, ◌↔◌}
use Rattle.inst_journal.specs.declared.event.Event.{Event}
use Rattle.inst_journal.specs.Sound.{Fits}
use Rattle.inst_books.proofs.replay.Replay.may_keep.Goals as goal

pub returns-in-Booked : goal.returns-in-Booked
returns-in-Booked c =
    let b = c.args.self.now in
    subst (λ (e : Event). IsTrue c.may_book.result ↔ Fits b.settings b.who b.events e) (sym c.in-Booked.is) c.may_book.ensures
