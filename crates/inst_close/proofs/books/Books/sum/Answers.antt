use Rattle.std.proofs.Common.{◌≡◌, ◌<◌, ◌+◌, ℕ, arith, length, get_or, sym, ap, ◌∙◌, subst, pos, List}
use Rattle.inst_journal.specs.Money.{position}
use Rattle.inst_slot.specs.Book.{Book}
use Rattle.inst_model.specs.Untold.{sum_below, sum_over_participants}
use Rattle.inst_participant.specs.Together.{histories}
use Rattle.inst_settings.specs.Settings.{participants}
use Rattle.inst_close.specs.ClosedHub.{ClosedHub, IsClosed}
use Rattle.inst_close.proofs.PositionSumsAreSmall.{one_summed, summed_small, net_is_positions}
use Rattle.inst_close.proofs.books.Books.sum.Goals as goal
use Rattle.inst_close.proofs.books.Books.sum.Goals.{After-position-total, After-loop-slot}

one_more : (c : After-position-total) → (c.loop-slot.slot-index < length c.args.self.now.books)
    × (c.loop-slot.total + c.position-total.result ≡ sum_below (c.loop-slot.slot-index + 1) (λ p. position (histories c.args.self.now.books p)))
one_more c =
    let books : List Book = c.args.self.now.books in
    let whole : c.as_slice-slot-items.result.now ≡ books = c.as_slice-slot-items.ensures.value ∙ ap (λ (h : ClosedHub). h.books) c.self.view_is in
    let i : ℕ = c.loop-slot.slot-index in
    let below : i < length books = omega (arith, c.loop-slot-test.true, ap (λ (l : List Book). length l) whole) in
    let here = c.slot-item.is ∙ ap (λ (l : List Book). get_or l i c.slot-item.result) whole in (
      below,
      one_summed c.args.self.now.settings books i c.slot-item.result c.loop-slot.total c.position-total.result below here c.position-total.ensures.value c.loop-slot.invariant,
    )

all : (c : After-loop-slot) → c.loop-slot.total ≡ sum_over_participants c.args.self.now.settings (λ p. position (histories c.args.self.now.books p))
all c =
    let closed : IsClosed c.args.self.now.settings c.args.self.now.books = subst (λ (h : ClosedHub). IsClosed h.settings h.books) c.self.view_is c.self.invariant in
    let books : List Book = c.args.self.now.books in
    let whole : c.as_slice-slot-items.result.now ≡ books = c.as_slice-slot-items.ensures.value ∙ ap (λ (h : ClosedHub). h.books) c.self.view_is in
    let gone : c.loop-slot.slot-index ≡ participants c.args.self.now.settings = omega (arith, c.loop-slot-test.false, c.loop-slot.auto.slot-index-end, ap (λ (l : List Book). length l) whole, closed.one_each) in
    c.loop-slot.invariant ∙ ap (λ (n : ℕ). sum_below n (λ p. position (histories books p))) gone

pub overflow_add-total : goal.overflow_add-total
overflow_add-total c =
    let closed : IsClosed c.args.self.now.settings c.args.self.now.books = subst (λ (h : ClosedHub). IsClosed h.settings h.books) c.self.view_is c.self.invariant in
    let next = one_more c in
    let small = summed_small c.args.self.now.settings c.args.self.now.books (c.loop-slot.slot-index + 1) (c.loop-slot.total + c.position-total.result) closed (omega (arith, next.0)) next.1 in
    omega (arith, small)

pub loop-slot-preserved : goal.loop-slot-preserved
loop-slot-preserved c = (one_more c).1

pub returns-clause-sum : goal.returns-clause-sum
returns-clause-sum c = all c

pub returns-clause-net : goal.returns-clause-net
returns-clause-net c =
    let closed : IsClosed c.args.self.now.settings c.args.self.now.books = subst (λ (h : ClosedHub). IsClosed h.settings h.books) c.self.view_is c.self.invariant in
    ap pos (all c) ∙ sym (net_is_positions c.args.self.now.settings c.args.self.now.books closed)
