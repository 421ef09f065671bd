use Rattle.std.proofs.Common.{◌≡◌, ◌<◌, ◌≤◌, ◌+◌, ℕ, arith, length, get_or, ap, ◌∙◌, subst, ℤ, ◌+ℤ◌, List}
use Rattle.std.proofs.lemmas.Int.{ints}
use mir.Syntax.{w128}
use mir.Val.{to_z, of_z}
use Rattle.inst_settings.specs.Settings.{participants}
use Rattle.inst_journal.specs.Sums.{net}
use Rattle.inst_journal.specs.declared.event.Event.{Event}
use Rattle.inst_slot.specs.Book.{Book}
use Rattle.inst_model.specs.Untold.{signed_sum_below}
use Rattle.inst_participant.specs.Together.{histories}
use Rattle.inst_close.specs.ClosedHub.{ClosedHub, IsClosed}
use Rattle.inst_close.proofs.PositionSumsAreSmall.{IsSmall, one_netted, netted_small, small_again, whole_net}
use Rattle.inst_close.proofs.books.Books.net.Goals as goal
use Rattle.inst_close.proofs.books.Books.net.Goals.{After-net-total}

-- what the loop adds comes back from its bits
one_more : (c : After-net-total) → (to_z w128 c.loop-slot.total-bits +ℤ to_z w128 (of_z w128 c.net-total.result)) ≡ signed_sum_below (c.loop-slot.slot-index + 1) (λ p. net (histories c.args.self.now.books p))
one_more c =
    let books : List Book = c.args.self.now.books in
    let whole : c.as_slice-slot-items.result.now ≡ books = c.as_slice-slot-items.ensures.value ∙ ap (λ (h : ClosedHub). h.books) c.self.view_is in
    let i : ℕ = c.loop-slot.slot-index in
    let below : i < length books = omega (arith, c.loop-slot-test.true, ap (λ (l : List Book). length l) whole) in
    let here = c.slot-item.is ∙ ap (λ (l : List Book). get_or l i c.slot-item.result) whole in
    let more : ℤ = to_z w128 (of_z w128 c.net-total.result) in
    let more_is : more ≡ c.net-total.result = omega (arith, ints, c.net-total.type_inv) in
    one_netted books i c.slot-item.result (to_z w128 c.loop-slot.total-bits) more below here (more_is ∙ (c.net-total.ensures ∙ ap (λ (J : List Event). net J) c.journal.ensures.events)) c.loop-slot.invariant

small : (c : After-net-total) → IsSmall (to_z w128 c.loop-slot.total-bits +ℤ to_z w128 (of_z w128 c.net-total.result))
small c =
    let closed : IsClosed c.args.self.now.settings c.args.self.now.books = subst (λ (h : ClosedHub). IsClosed h.settings h.books) c.self.view_is c.self.invariant in
    let whole : c.as_slice-slot-items.result.now ≡ c.args.self.now.books = c.as_slice-slot-items.ensures.value ∙ ap (λ (h : ClosedHub). h.books) c.self.view_is in
    let below : c.loop-slot.slot-index + 1 ≤ length c.args.self.now.books = omega (arith, c.loop-slot-test.true, ap (λ (l : List Book). length l) whole) in
    netted_small c.args.self.now.settings c.args.self.now.books (c.loop-slot.slot-index + 1) (to_z w128 c.loop-slot.total-bits +ℤ to_z w128 (of_z w128 c.net-total.result)) closed below (one_more c)

pub overflow_add-total : goal.overflow_add-total
overflow_add-total c =
    let few = small c in
    omega (arith, ints, few.is, few.few_came, few.few_went)

pub loop-slot-preserved : goal.loop-slot-preserved
loop-slot-preserved c = small_again (to_z w128 c.loop-slot.total-bits +ℤ to_z w128 (of_z w128 c.net-total.result)) (small c) ∙ one_more c

pub returns : goal.returns
returns c =
    let closed : IsClosed c.args.self.now.settings c.args.self.now.books = subst (λ (h : ClosedHub). IsClosed h.settings h.books) c.self.view_is c.self.invariant in
    let books : List Book = c.args.self.now.books in
    let whole : c.as_slice-slot-items.result.now ≡ books = c.as_slice-slot-items.ensures.value ∙ ap (λ (h : ClosedHub). h.books) c.self.view_is in
    let all : c.loop-slot.slot-index ≡ participants c.args.self.now.settings = omega (arith, c.loop-slot-test.false, c.loop-slot.auto.slot-index-end, ap (λ (l : List Book). length l) whole, closed.one_each) in
    let done = c.loop-slot.invariant ∙ ap (λ (n : ℕ). signed_sum_below n (λ p. net (histories books p))) all in
    whole_net (to_z w128 c.loop-slot.total-bits) c.unsigned_abs.result c.args.self.now.settings books closed done c.unsigned_abs.ensures.value
