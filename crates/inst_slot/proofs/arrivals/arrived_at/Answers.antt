use Rattle.std.proofs.Common.{refl, sym, ap, ◌∙◌, arith}
use Rattle.std.proofs.lemmas.Grind.{elements}
use Rattle.inst_slot.specs.declared.arrivals.Spot.{Spot}
use Rattle.inst_transfers.specs.Held.{AreApart}
use Rattle.inst_slot.specs.Spots.{rows_of}
use Rattle.inst_slot.proofs.Spots.{found_row, arrived_here, not_here}
use Rattle.std.proofs.Common.{subst}
use Rattle.std.proofs.lemmas.Option.{get_or_from_slice_get}
use Rattle.inst_slot.proofs.arrivals.arrived_at.Goals as goal

pub returns-in_err-at : goal.returns-in_err-at
returns-in_err-at c =
    let l = c.args.ledger.now in
    let f = c.args.found.now in
    let rows = rows_of l.book.who l.book.events in
    let right = c.transfers.ensures.right in
    c.from_residual.ensures
    ∙ sym (not_here rows c.args.spots.now (subst AreApart right.rows c.transfers.ensures.apart) c.requires.spots f.from f.id f.position _ (found_row l.book.who l.book.events l.table f right c.requires.there) refl refl c.in_err-at.ensures)

pub returns : goal.returns
returns c =
    let l = c.args.ledger.now in
    let f = c.args.found.now in
    let rows = rows_of l.book.who l.book.events in
    let right = c.transfers.ensures.right in
    let at = c.in_ok-at.ensures in
    ap (λ (s : Spot). s.index) (get_or_from_slice_get c.args.spots.now c.in_ok-at.at at.spot _ at.there)
    ∙ sym (arrived_here rows c.args.spots.now (subst AreApart right.rows c.transfers.ensures.apart) c.requires.spots f.from f.id f.position _ (found_row l.book.who l.book.events l.table f right c.requires.there) refl refl c.in_ok-at.at at)

pub offset_bounds-spots-at : goal.offset_bounds-spots-at
offset_bounds-spots-at c = grind (arith, elements)

pub bounds-spots-at : goal.bounds-spots-at
bounds-spots-at c = grind (arith, elements)
