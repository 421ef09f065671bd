use Rattle.std.proofs.Common.{◌≡◌, ◌<◌, ℕ, arith, length, get_or, ap, ◌∙◌, List}
use Rattle.inst_slot.specs.Book.{Book}
use Rattle.inst_close.specs.ClosedHub.{ClosedHub}
use Rattle.inst_close.proofs.CopiesOfBooks.{one_copied, all_copied}
use Rattle.inst_close.proofs.books.Books.copies.Goals as goal

pub loop-slot-preserved : goal.loop-slot-preserved
loop-slot-preserved c =
    let books : List Book = c.args.self.now.books in
    let whole : c.as_slice-slot-items.result.now ≡ books = c.as_slice-slot-items.ensures.value ∙ ap (λ (h : ClosedHub). h.books) c.self.view_is in
    let i : ℕ = c.loop-slot.slot-index in
    let below : i < length books = omega (arith, c.loop-slot-test.true, ap (λ (l : List Book). length l) whole) in
    let here = c.slot-item.is ∙ ap (λ (l : List Book). get_or l i c.slot-item.result) whole in
    one_copied books c.loop-slot.journals.items c.push.new.self.items i c.slot-item.result c.in_ok-copy.field-0 below here (c.in_ok-copy.ensures.ok ∙ c.journal.ensures.events) c.in_ok-push.ensures.items c.loop-slot.invariant

pub returns : goal.returns
returns c =
    let books : List Book = c.args.self.now.books in
    let whole : c.as_slice-slot-items.result.now ≡ books = c.as_slice-slot-items.ensures.value ∙ ap (λ (h : ClosedHub). h.books) c.self.view_is in
    let long = ap (λ (l : List Book). length l) whole in
    record {
      ok = all_copied books c.loop-slot.journals.items c.loop-slot.slot-index (omega (arith, c.loop-slot-test.false, long)) (omega (arith, c.loop-slot.auto.slot-index-end, long)) c.loop-slot.invariant;
    }
