use Rattle.std.proofs.Common.{◌∙◌, ◌++◌, ◌∷◌, [], sym, refl, ap, subst}
use Rattle.inst_journal.specs.Sound.{Fits}
use Rattle.inst_ledger.specs.Right.{own_ids}
use Rattle.inst_slot.specs.Book.{Book}
use Rattle.inst_slot.proofs.OwnTransfersThatWait.{books_nothing}
use Rattle.inst_slot.proofs.OwnIds.{apart_moves_none, apart_books_none, keeps_over}
use Rattle.inst_slot.proofs.Spots.{spots_over, over_after}
use Rattle.inst_slot.proofs.slot.Slot.keep.Goals as goal

pub invariant_of-self-2 : goal.invariant_of-self-2
invariant_of-self-2 c =
    let old = c.self.inside.ledger.book in (
      keeps_over old c.keep.new.self.book c.self.inside.waiting c.self.inside.waiting c.args.event c.self.invariant.0
          (subst (λ (x : Book). Fits x.settings x.who x.events c.args.event) (sym c.self.view_is) c.requires.fits) (apart_moves_none c.args.event c.requires.apart) c.in_ok-keep.ensures.ok refl old.who refl
          (books_nothing old.who c.args.event (own_ids c.keep.new.self.book.who c.keep.new.self.book.events) c.self.inside.waiting.pairs (apart_books_none c.args.event c.requires.apart)),
      spots_over old c.keep.new.self.book c.args.event c.self.inside.arrivals.items c.in_ok-keep.ensures.ok c.self.invariant.1,
    )

pub returns-clause-ok : goal.returns-clause-ok
returns-clause-ok c =
    over_after c.self.inside.ledger.book c.keep.new.self.book c.args.event c.self.inside.arrivals.items c.in_ok-keep.ensures.ok c.self.invariant.1
    ∙ ap (λ (x : Book). record x { events = x.events ++ c.args.event ∷ [] }) c.self.view_is
