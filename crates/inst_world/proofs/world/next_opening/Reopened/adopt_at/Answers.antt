use Rattle.std.proofs.Common.{set, sym, ap, subst, ◌∙◌}
use Rattle.inst_board.specs.Standing.{look_of}
use Rattle.inst_board.specs.Plain.{Contents}
use Rattle.inst_world.specs.HasRun.{World}
use Rattle.inst_world.specs.inner.NextOpening.{IsCarryingWorld, HaveFoundBefore, OnlyFinds}
use Rattle.inst_world.proofs.CarriedTransfersFindPlaces.{its_lawful, adopted_found, adopted_carrying, adopted_finds, passes_by, finds_none}
use Rattle.inst_world.proofs.world.next_opening.Reopened.adopt_at.Goals as goal

pub adopt-requires : goal.adopt-requires
adopt-requires c =
    let e = c.in-Pending.ensures.exact in
    let lawful = its_lawful c.self.inside.slots.items c.self.inside.board c.look.new.self c.look.new.self c.args.place c.in-Pending.terms c.in-Pending.field-1 c.from.result c.index_mut.result.now c.index_mut.result.now c.look.result
    c.self.invariant e.1 e.0 c.from.ensures c.index_mut.ensures.value in
    record { lawful = lawful }

pub invariant_of-self : goal.invariant_of-self
invariant_of-self c =
    let e = c.in-Pending.ensures.exact in
    let a = c.adopt.ensures in
    adopted_carrying c.self.inside.slots.items c.self.inside.board c.look.new.self c.adopt.new.board c.args.place c.in-Pending.terms c.in-Pending.field-1 c.from.result c.index_mut.result.now c.adopt.new.self a.finds.0
    c.self.invariant e.1 e.0 c.from.ensures c.index_mut.ensures.value c.look.new.self.settings.margin a.finds.1 a.finds.3 a.law.holder a.law.lawful a.law.others

pub returns-in-Pending-clause-found : goal.returns-in-Pending-clause-found
returns-in-Pending-clause-found c =
    let e = c.in-Pending.ensures.exact in
    let a = c.adopt.ensures in
    adopted_found c.self.inside.slots.items c.self.inside.board c.look.new.self c.adopt.new.board c.args.place c.in-Pending.terms c.in-Pending.field-1 c.from.result c.index_mut.result.now c.adopt.new.self a.finds.0
    c.self.invariant e.1 e.0 c.from.ensures c.index_mut.ensures.value c.look.new.self.settings.margin a.finds.1 a.finds.3
    (subst (λ (w : World). HaveFoundBefore c.args.place.owner c.args.place.index w) (sym c.self.view_is) c.requires.found)

pub returns-in-Pending-clause-finds : goal.returns-in-Pending-clause-finds
returns-in-Pending-clause-finds c =
    let e = c.in-Pending.ensures.exact in
    let a = c.adopt.ensures in
    let new : World = record { books = set c.self.inside.slots.items c.from.result c.adopt.new.self; board = c.adopt.new.board } in
    subst (λ (w : World). OnlyFinds w new) c.self.view_is
    (adopted_finds c.self.inside.slots.items c.self.inside.board c.look.new.self c.adopt.new.board c.args.place c.in-Pending.terms c.in-Pending.field-1 c.from.result c.index_mut.result.now c.adopt.new.self a.finds.0
    c.self.invariant e.1 e.0 c.from.ensures c.index_mut.ensures.value c.look.new.self.settings.margin a.finds.1 a.finds.3 a.law.holder)

pub invariant_of-self-in_default : goal.invariant_of-self-in_default
invariant_of-self-in_default c = subst (λ (b : Contents). IsCarryingWorld (record { books = c.self.inside.slots.items; board = b })) (sym c.look.ensures.exact.1) c.self.invariant

pub returns-in_default : goal.returns-in_default
returns-in_default c =
    let e = c.look.ensures.exact in
    let old : World = record { books = c.self.inside.slots.items; board = c.self.inside.board } in
    record {
      found = passes_by old c.look.new.self c.args.place e.1 (λ t d is. c.in_default.not-Pending t d (e.0 ∙ ap look_of is))
          (subst (λ (w : World). HaveFoundBefore c.args.place.owner c.args.place.index w) (sym c.self.view_is) c.requires.found);
      finds = subst (λ (b : Contents). OnlyFinds c.args.self.now (record { books = c.self.inside.slots.items; board = b })) (sym e.1) (subst (λ (w : World). OnlyFinds w old) c.self.view_is (finds_none old));
    }
