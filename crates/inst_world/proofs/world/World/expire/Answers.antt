use Rattle.std.proofs.Common.{◌≡◌}
use Rattle.inst_world.proofs.BooksAsOneSlotActs.{leads_to, acted}
use Rattle.inst_world.proofs.StepIsRunOrRefused.{still_kept, expired}
use Rattle.inst_world.proofs.world.World.expire.Goals as goal

pub expire-requires : goal.expire-requires
expire-requires c =
    let l = leads_to _ _ _ _ _ c.self.invariant.0 c.self.view_is c.requires.participant c.from.ensures c.index_mut.ensures.value in
    record { lawful = l.member.lawful }

pub invariant_of-self : goal.invariant_of-self
invariant_of-self c =
    let l = leads_to _ _ _ _ _ c.self.invariant.0 c.self.view_is c.requires.participant c.from.ensures c.index_mut.ensures.value in
    let e = c.expire.ensures in
    still_kept _ _ _ _ _ _ _ c.self.invariant c.self.view_is
    (acted _ _ _ _ _ _ _ c.self.invariant.0 l e.law.holder e.law.lawful e.law.others e.law.same e.law.adopted)
    (expired _ _ _ _ _ _ _ c.self.view_is e.law.holder c.args.who c.args.index c.args.at (λ a d. d.settings ≡ a.settings) l c.requires.participant c.expire.result e.expires)

pub returns : goal.returns
returns c =
    let l = leads_to _ _ _ _ _ c.self.invariant.0 c.self.view_is c.requires.participant c.from.ensures c.index_mut.ensures.value in
    let e = c.expire.ensures in
    expired _ _ _ _ _ _ _ c.self.view_is e.law.holder c.args.who c.args.index c.args.at (λ a d. d.settings ≡ a.settings) l c.requires.participant c.expire.result e.expires
