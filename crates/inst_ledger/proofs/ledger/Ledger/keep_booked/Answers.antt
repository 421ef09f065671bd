use Rattle.inst_ledger.proofs.LedgerStaysRight.{booking_finds, fits_found}
use Rattle.inst_ledger.proofs.ledger.Ledger.keep_booked.Goals as goal

pub unwrap-found-requires : goal.unwrap-found-requires
unwrap-found-requires c =
    let b = c.args.self.now in
    booking_finds b.book.settings b.book.who b.book.events b.table c.args.from c.args.id c.args.outcome.now c.find.result c.find.ensures.sound c.find.ensures.right c.requires c.find.ensures.found

pub keep_found-requires-clause-fits : goal.keep_found-requires-clause-fits
keep_found-requires-clause-fits c =
    let b = c.args.self.now in
    fits_found b.book.settings b.book.who b.book.events b.table c.args.from c.args.id c.args.outcome.now c.find.result c.unwrap-found.result c.requires c.find.ensures.found c.unwrap-found.ensures
