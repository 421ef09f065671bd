use Rattle.std.proofs.Common.{◌≡◌, ap, ◌∙◌, sym, subst}
use Rattle.inst_settings.specs.Settings.{HubSettings}
use Rattle.inst_settings.specs.Lawful.{IsSettings}
use Rattle.inst_journal.specs.Sound.{IsSound}
use Rattle.inst_model.specs.Hub.{history}
use Rattle.inst_slot.specs.Book.{events_of}
use Rattle.inst_world.specs.HasRun.{World, HasRun, journal_of}
use Rattle.inst_world.proofs.BooksAsOneSlotActs.{leads_to}
use Rattle.inst_world.proofs.world.World.journal.Goals as goal

pub returns-clause-history : goal.returns-clause-history
returns-clause-history c =
    let l = leads_to _ _ _ _ _ c.self.invariant.0 c.self.view_is c.requires c.from.ensures c.index.ensures in
    subst (λ (h : World). (O : _) (L : _) → HasRun O L h → c.journal.result.now.events ≡ history h.board.settings O L c.args.who) c.self.view_is
    (λ O L was. c.journal.ensures.events ∙ was.histories c.args.who c.index.result.now l.there)

pub returns-clause-events : goal.returns-clause-events
returns-clause-events c =
    let l = leads_to _ _ _ _ _ c.self.invariant.0 c.self.view_is c.requires c.from.ensures c.index.ensures in
    c.journal.ensures.events ∙ sym (ap events_of l.there) ∙ ap (λ (h : World). journal_of h c.args.who) c.self.view_is

pub returns-clause-lawful : goal.returns-clause-lawful
returns-clause-lawful c =
    let l = leads_to _ _ _ _ _ c.self.invariant.0 c.self.view_is c.requires c.from.ensures c.index.ensures in
    subst (λ (h : World). IsSettings h.board.settings) c.self.view_is (subst IsSettings l.member.settings_are c.journal.ensures.lawful)

pub returns-clause-sound : goal.returns-clause-sound
returns-clause-sound c =
    let l = leads_to _ _ _ _ _ c.self.invariant.0 c.self.view_is c.requires c.from.ensures c.index.ensures in
    let events = c.journal.result.now.events in
    subst (λ (h : World). IsSound h.board.settings c.args.who events) c.self.view_is
    (subst (λ (w : _). IsSound c.self.inside.board.settings w events) l.member.who_is (subst (λ (s : HubSettings). IsSound s c.index.result.now.who events) l.member.settings_are c.journal.ensures.sound))
