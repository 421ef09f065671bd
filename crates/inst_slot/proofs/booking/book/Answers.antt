use Rattle.std.proofs.Common.{sym, ap, ◌∙◌}
use Rattle.inst_ledger.specs.Book.{LedgerBook as Kept}
use Rattle.inst_slot.proofs.Bookings.{own_booked, another_booked}
use Rattle.inst_slot.proofs.booking.book.Goals as goal

pub returns-then-found-who-clause-right : goal.returns-then-found-who-clause-right
returns-then-found-who-clause-right c =
    let l = c.args.ledger.now in
    let f = c.args.found.now in
    let mine = c.if-found-who.true ∙ c.who.ensures ∙ ap (λ (x : Kept). x.who) c.in_ok-keep_found.ensures.ok in
    own_booked l.book c.keep_found.new.self.book c.args.waiting.now c.take_out.new.self f.from f.id c.args.index c.args.outcome.now c.requires.right c.requires.fits
    c.in_ok-keep_found.ensures.ok mine (c.requires.own mine) c.take_out.ensures.deadlines c.take_out.ensures.pairs

pub returns-else-found-who-clause-right : goal.returns-else-found-who-clause-right
returns-else-found-who-clause-right c =
    let l = c.args.ledger.now in
    let f = c.args.found.now in
    another_booked l.book c.keep_found.new.self.book c.args.waiting.now f.from f.id c.args.outcome.now c.requires.right c.requires.fits c.in_ok-keep_found.ensures.ok
    (λ mine. c.if-found-who.false (mine ∙ sym (c.who.ensures ∙ ap (λ (x : Kept). x.who) c.in_ok-keep_found.ensures.ok)))
