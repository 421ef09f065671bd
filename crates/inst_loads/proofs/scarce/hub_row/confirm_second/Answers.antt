use Rattle.inst_loads.proofs.scarce.hub_row.confirm_second.Goals as goal

pub returns : goal.returns
returns g c = c.sees.ensures c.args.hub.now c.call_in_want.ensures
