use Rattle.inst_world.proofs.BooksAsOneSlotActs.{leads_to, acted}
use Rattle.inst_world.proofs.StepIsRunOrRefused.{still_kept, learnt}
use Rattle.inst_world.proofs.world.World.learn.Goals as goal

pub learn-requires : goal.learn-requires
learn-requires c =
    let l = leads_to _ _ _ _ _ c.self.invariant.0 c.self.view_is c.requires.participants.0 c.from.ensures c.index_mut.ensures.value in
    record { lawful = l.member.lawful }

pub invariant_of-self : goal.invariant_of-self
invariant_of-self c =
    let l = leads_to _ _ _ _ _ c.self.invariant.0 c.self.view_is c.requires.participants.0 c.from.ensures c.index_mut.ensures.value in
    let e = c.learn.ensures in
    still_kept _ _ _ _ _ _ _ c.self.invariant c.self.view_is
    (acted _ _ _ _ _ _ _ c.self.invariant.0 l e.law.holder e.law.lawful e.law.others e.law.same e.law.adopted)
    (learnt _ _ _ _ _ _ _ c.self.view_is e.law.holder c.args.who c.args.place l c.requires.participants e.learns.0 c.learn.result e.learns.1 e.learns.2)

pub returns : goal.returns
returns c =
    let l = leads_to _ _ _ _ _ c.self.invariant.0 c.self.view_is c.requires.participants.0 c.from.ensures c.index_mut.ensures.value in
    let e = c.learn.ensures in
    learnt _ _ _ _ _ _ _ c.self.view_is e.law.holder c.args.who c.args.place l c.requires.participants e.learns.0 c.learn.result e.learns.1 e.learns.2
