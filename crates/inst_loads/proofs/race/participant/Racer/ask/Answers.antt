use Rattle.inst_cell.specs.Held.{settings_of, knows, has_role}
use Rattle.inst_slot.proofs.ForwardedTransfersHavePlaces.{asks_adopted}
use Rattle.inst_loads.proofs.race.participant.Racer.ask.Goals as goal

pub apply-requires-clause-adopted : goal.apply-requires-clause-adopted
apply-requires-clause-adopted c =
    let p = c.self.inside in
    asks_adopted settings_of knows has_role p.board p.slot c.args.command c.self.invariant.0 c.self.invariant.1
