use Rattle.std.proofs.Common.{◌≡◌, ◌<◌, ℕ, arith, length, get_or, ap, ◌∙◌, subst, List}
use Rattle.inst_journal.specs.declared.event.Event.{Event}
use Rattle.inst_journal.specs.Opened.{HasOpeningsLeft}
use Rattle.inst_slot.specs.Book.{Book}
use Rattle.inst_close.specs.ClosedHub.{ClosedHub}
use Rattle.inst_close.proofs.CopiesOfBooks.{one_more_few, all_few}
use Rattle.inst_close.proofs.books.Books.may_open.Goals as goal

pub loop-slot-preserved : goal.loop-slot-preserved
loop-slot-preserved c =
    let books : List Book = c.args.self.now.books in
    let whole : c.as_slice-slot-items.result.now ≡ books = c.as_slice-slot-items.ensures.value ∙ ap (λ (h : ClosedHub). h.books) c.self.view_is in
    let i : ℕ = c.loop-slot.slot-index in
    let below : i < length books = omega (arith, c.loop-slot-test.true, ap (λ (l : List Book). length l) whole) in
    let here = c.slot-item.is ∙ ap (λ (l : List Book). get_or l i c.slot-item.result) whole in
    let few : HasOpeningsLeft c.slot-item.result.events = subst (λ (J : List Event). HasOpeningsLeft J) c.journal.ensures.events (c.has_openings_left.ensures.left c.if-not-has_openings_left.false) in
    one_more_few books i c.slot-item.result 0 below here few c.loop-slot.invariant

pub returns-clause-few : goal.returns-clause-few
returns-clause-few c = λ yes.
    let books : List Book = c.args.self.now.books in
    let whole : c.as_slice-slot-items.result.now ≡ books = c.as_slice-slot-items.ensures.value ∙ ap (λ (h : ClosedHub). h.books) c.self.view_is in
    all_few books c.loop-slot.slot-index (omega (arith, c.loop-slot-test.false, ap (λ (l : List Book). length l) whole)) c.loop-slot.invariant
