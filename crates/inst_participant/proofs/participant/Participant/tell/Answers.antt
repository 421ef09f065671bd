use Rattle.std.proofs.Common.{sym, ◌∙◌}
use Rattle.inst_cell.specs.Held.{settings_of, knows, has_role, roles_same}
use Rattle.inst_slot.proofs.ToldPlaceIsKnown.{told_known}
use Rattle.inst_participant.proofs.SameKnowledgeKeepsLaw.{still_lawful}
use Rattle.inst_participant.proofs.participant.Participant.tell.Goals as goal

pub tell-requires-clause-opened : goal.tell-requires-clause-opened
tell-requires-clause-opened c =
    (told_known settings_of knows has_role c.args.self.now.board c.args.self.now.slot c.args.from c.args.id.now c.in_ok-place.place c.requires.ready.lawful (sym c.place_of.ensures ∙ c.in_ok-place.was)).known.opened

pub returns-clause-ready : goal.returns-clause-ready
returns-clause-ready c = record {
  lawful = still_lawful settings_of knows has_role c.args.self.now.board c.tell.new.self c.args.self.now.slot c.tell.ensures.stays.0.settings
      (roles_same c.args.self.now.board c.tell.new.self c.args.self.now.slot.who c.tell.ensures.stays.0).0 c.tell.ensures.same c.requires.ready.lawful;
  adopted = c.requires.ready.adopted;
}
