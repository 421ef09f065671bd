use Rattle.inst_hub.proofs.hub.Hub.call.Goals as goal

pub returns : goal.returns
returns g c = c.call_with.ensures
