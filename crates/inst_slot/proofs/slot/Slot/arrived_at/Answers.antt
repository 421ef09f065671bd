use Rattle.std.proofs.Common.{◌∙◌, sym, ap}
use Rattle.inst_slot.specs.Book.{Book, arrived_at}
use Rattle.inst_slot.specs.Spots.{rows_of}
use Rattle.inst_slot.proofs.Spots.{unknown_here}
use Rattle.inst_slot.proofs.slot.Slot.arrived_at.Goals as goal

pub returns-in_err-found : goal.returns-in_err-found
returns-in_err-found c =
    let l = c.self.inside.ledger in
    let id = c.args.id.now in
    c.from_residual.ensures
    ∙ sym (unknown_here l.table.entries (rows_of l.book.who l.book.events) c.self.inside.arrivals.items c.in_err-found.ensures.right.rows c.self.invariant.1 c.args.from id c.in_err-found.ensures.found)
    ∙ ap (λ (x : Book). arrived_at c.args.from id x.arrivals) c.self.view_is
