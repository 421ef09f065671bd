use Rattle.std.proofs.Common.{refl}
use Rattle.inst_cell.specs.Held.{settings_of, knows, has_role, stood, roles_same}
use Rattle.inst_slot.proofs.EffectOfLookAndDecision.{looked_on}
use Rattle.inst_participant.proofs.participant.Participant.look.Goals as goal

pub returns-clause-ready : goal.returns-clause-ready
returns-clause-ready c = record {
  lawful = looked_on settings_of knows has_role (settings_of c.args.self.now.board).margin stood c.args.self.now.board c.look.new.self c.args.place c.look.result c.look.ensures.look
      c.args.self.now.slot c.look.ensures.stays.settings refl (roles_same c.args.self.now.board c.look.new.self c.args.self.now.slot.who c.look.ensures.stays).0 c.requires.ready.lawful;
  adopted = c.requires.ready.adopted;
}
