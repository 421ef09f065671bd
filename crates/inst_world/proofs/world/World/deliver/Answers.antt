use Rattle.inst_world.proofs.BooksAsOneSlotActs.{leads_to, acted}
use Rattle.inst_world.proofs.StepIsRunOrRefused.{still_kept, delivered}
use Rattle.inst_world.proofs.world.World.deliver.Goals as goal

pub deliver-requires-clause-lawful : goal.deliver-requires-clause-lawful
deliver-requires-clause-lawful c =
    let l = leads_to _ _ _ _ _ c.self.invariant.0 c.self.view_is c.requires.participants.1 c.from.ensures c.index_mut.ensures.value in
    l.member.lawful

pub deliver-requires-clause-adopted : goal.deliver-requires-clause-adopted
deliver-requires-clause-adopted c =
    let l = leads_to _ _ _ _ _ c.self.invariant.0 c.self.view_is c.requires.participants.1 c.from.ensures c.index_mut.ensures.value in
    l.member.adopted

pub invariant_of-self : goal.invariant_of-self
invariant_of-self c =
    let l = leads_to _ _ _ _ _ c.self.invariant.0 c.self.view_is c.requires.participants.1 c.from.ensures c.index_mut.ensures.value in
    let e = c.deliver.ensures in
    still_kept _ _ _ _ _ _ _ c.self.invariant c.self.view_is
    (acted _ _ _ _ _ _ _ c.self.invariant.0 l e.law.holder e.law.lawful e.law.others e.law.same e.law.adopted)
    (delivered _ _ _ _ _ _ _ c.self.view_is e.law.holder c.args.place c.args.to l c.requires.participants e.delivers.0 c.deliver.result e.delivers.1 e.delivers.2)

pub returns : goal.returns
returns c =
    let l = leads_to _ _ _ _ _ c.self.invariant.0 c.self.view_is c.requires.participants.1 c.from.ensures c.index_mut.ensures.value in
    let e = c.deliver.ensures in
    delivered _ _ _ _ _ _ _ c.self.view_is e.law.holder c.args.place c.args.to l c.requires.participants e.delivers.0 c.deliver.result e.delivers.1 e.delivers.2
