use Rattle.std.proofs.Common.{◌≡◌, ap, ◌∙◌, subst, List}
use Rattle.std.specs.Prelude.{IfOk}
use Rattle.std.proofs.lemmas.Result.{IfOk-weaker}
use Rattle.inst_journal.specs.declared.event.Event.{Event}
use Rattle.inst_journal.specs.Statement.{statement_part}
use Rattle.inst_model.specs.Hub.{history}
use Rattle.inst_world.specs.HasRun.{World, HasRun}
use Rattle.inst_world.proofs.BooksAsOneSlotActs.{leads_to}
use Rattle.inst_world.proofs.world.World.statement.Goals as goal

pub returns : goal.returns
returns c =
    let l = leads_to _ _ _ _ _ c.self.invariant.0 c.self.view_is c.requires c.from.ensures c.index.ensures in
    subst (λ (h : World). IfOk c.statement.result (λ lines. (O : _) (L : _) → HasRun O L h → lines ≡ statement_part (history h.board.settings O L c.args.who) c.args.skip c.args.count)) c.self.view_is
    (IfOk-weaker c.statement.result _ _ (λ lines is O L was. is ∙ ap (λ (J : List Event). statement_part J c.args.skip c.args.count) (was.histories c.args.who c.index.result.now l.there)) c.statement.ensures)
