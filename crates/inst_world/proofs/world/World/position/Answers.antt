use Rattle.std.proofs.Common.{◌≡◌, ap, ◌∙◌, subst}
use Rattle.inst_journal.specs.Money.{position}
use Rattle.inst_model.specs.Hub.{history}
use Rattle.inst_world.specs.HasRun.{World, HasRun}
use Rattle.inst_world.proofs.BooksAsOneSlotActs.{leads_to}
use Rattle.inst_world.proofs.world.World.position.Goals as goal

pub returns-clause-history : goal.returns-clause-history
returns-clause-history c =
    let l = leads_to _ _ _ _ _ c.self.invariant.0 c.self.view_is c.requires c.from.ensures c.index.ensures in
    subst (λ (h : World). (O : _) (L : _) → HasRun O L h → c.position.result ≡ position (history h.board.settings O L c.args.who)) c.self.view_is
    (λ O L was. c.position.ensures.value ∙ ap position (was.histories c.args.who c.index.result.now l.there))
