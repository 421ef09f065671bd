use Rattle.std.proofs.Common.{◌∙◌, ap}
use Rattle.inst_slot.specs.Book.{Book}
use Rattle.inst_slot.specs.Waiting.{waits}
use Rattle.inst_slot.proofs.OwnIds.{next_due}
use Rattle.inst_slot.proofs.slot.Slot.due_after.Goals as goal

pub returns : goal.returns
returns c =
    next_due c.args.self.now c.self.inside.waiting.pairs c.args.pair c.after.result
    (λ d k. c.self.invariant.0.3.pairs d k ∙ ap (λ (x : Book). waits x.settings x.who x.events d k) c.self.view_is) c.after.ensures
