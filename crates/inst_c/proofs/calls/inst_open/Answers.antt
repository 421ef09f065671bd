use Rattle.std.proofs.Common.{sym, ◌∙◌}
use Rattle.inst_c.specs.Chosen.{chosen, mode_of}
use Rattle.inst_c.proofs.HandleAfterCall.{has_opened}
use Rattle.inst_c.proofs.calls.inst_open.Goals as goal

pub returns-in-Ok : goal.returns-in-Ok
returns-in-Ok c =
    let handle = c.args.handle.now in
    has_opened (chosen c.args.participants.now c.args.settings.now) (mode_of c.args.is_play) handle.held.hub c.put.new.self.held.hub c.in-Ok.hub.value
    (sym handle.same ∙ c.if-handle.false) c.put.ensures c.in-Ok.ensures.opened c.in-Ok.ensures.good
