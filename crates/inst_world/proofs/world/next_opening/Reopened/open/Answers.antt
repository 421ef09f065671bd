use Rattle.std.proofs.Common.{◌≡◌, ◌<◌, List, length, sym, ap, subst, ◌∙◌, arith}
use Rattle.inst_settings.specs.Settings.{participants}
use Rattle.inst_journal.specs.declared.event.Event.{Event}
use Rattle.inst_journal.specs.Opened.{HasOpeningsLeft}
use Rattle.inst_journal.specs.Sound.{IsSound}
use Rattle.inst_slot.specs.Book.{Book}
use Rattle.inst_slot.specs.Opening.{opened_again}
use Rattle.inst_world.specs.HasRun.{World}
use Rattle.inst_world.specs.NextOpening.{books_of}
use Rattle.inst_world.specs.inner.NextOpening.{AreOpenedAgain}
use Rattle.inst_world.proofs.BoardOfReopenedHub.{book_at, none_opened, next_opened, carrying}
use Rattle.inst_world.proofs.world.next_opening.Reopened.open.Goals as goal

pub loop-who-init : goal.loop-who-init
loop-who-init c =
    let u = c.in_ok-board.ensures.unused in
    subst (λ (xs : List Book). AreOpenedAgain c.args.settings.now (books_of c.args.journals.now) 0 (record { books = xs; board = c.in_ok-board.board })) (sym c.new-slots.ensures.items)
    (none_opened c.args.settings.now (books_of c.args.journals.now) c.in_ok-board.board u.0 u.1)

pub open_from-requires-clause-board : goal.open_from-requires-clause-board
open_from-requires-clause-board c = c.loop-who.invariant.next c.loop-who.who (omega arith)

pub open_from-requires-clause-books : goal.open_from-requires-clause-books
open_from-requires-clause-books c =
    let below : c.from.result < length c.args.journals.now = omega arith in
    let its = book_at c.args.journals.now c.from.result c.loop-who.who c.index-journals-from.result below c.from.ensures c.index-journals-from.is in
    record {
      sound = subst (λ (J : List Event). IsSound c.args.settings.now c.loop-who.who J) its (c.requires.journals.books.sound c.loop-who.who);
      few = subst (λ (J : List Event). HasOpeningsLeft J) its (c.requires.journals.books.few c.loop-who.who);
    }

pub loop-who-preserved : goal.loop-who-preserved
loop-who-preserved c =
    let below : c.from.result < length c.args.journals.now = omega arith in
    let its = book_at c.args.journals.now c.from.result c.loop-who.who c.index-journals-from.result below c.from.ensures c.index-journals-from.is in
    let e = c.open_from.ensures in
    let f = c.in_ok-open_from.ensures in
    let is = f.ok.slot_is ∙ ap (opened_again c.args.settings.now c.loop-who.who) (sym its) in
    next_opened c.args.settings.now (books_of c.args.journals.now) c.loop-who.who c.loop-who.slots.items c.push.new.self.items c.loop-who.board c.open_from.new.board c.in_ok-open_from.field-0
    c.loop-who.invariant c.in_ok-push.ensures.items is f.ok.places f.ok.lawful e.rest.others e.rest.holder

pub invariant_of-result : goal.invariant_of-result
invariant_of-result c =
    let opened : World = record { books = c.loop-who.slots.items; board = c.loop-who.board } in
    let all : c.loop-who.who ≡ participants c.args.settings.now = omega arith in
    carrying c.args.settings.now (books_of c.args.journals.now) c.requires.journals.books opened
    (subst (λ n. AreOpenedAgain c.args.settings.now (books_of c.args.journals.now) n opened) all c.loop-who.invariant)

pub returns : goal.returns
returns c =
    let opened : World = record { books = c.loop-who.slots.items; board = c.loop-who.board } in
    let all : c.loop-who.who ≡ participants c.args.settings.now = omega arith in
    record { ok = subst (λ n. AreOpenedAgain c.args.settings.now (books_of c.args.journals.now) n opened) all c.loop-who.invariant }
