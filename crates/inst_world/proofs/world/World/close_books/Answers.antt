use Rattle.std.proofs.Common.{◌++◌, subst}
use Rattle.std.proofs.lemmas.Result.{IfOk-weaker}
use Rattle.inst_settings.specs.Settings.{HubSettings}
use Rattle.inst_model.specs.Closing.{closing}
use Rattle.inst_model.specs.Hub.{history}
use Rattle.inst_world.specs.NextOpening.{AreClosedBooks, AreJournalsOf}
use Rattle.inst_world.proofs.ClosedWorldCanOpen.{its_closed_books}
use Rattle.inst_world.proofs.world.World.close_books.Goals as goal

pub returns-clause-books : goal.returns-clause-books
returns-clause-books c =
    let s : HubSettings = c.args.self.now.board.settings in
    IfOk-weaker c.journals.result _ _
    (λ journals are O L run. subst (λ (t : HubSettings). AreJournalsOf t (history t O (closing s ++ L)) journals.items) c.in_ok-close.ensures.settings (are O (closing s ++ L) (c.in_ok-close.ensures.ran O L run)))
    c.journals.ensures.ok

pub returns-clause-closed : goal.returns-clause-closed
returns-clause-closed c =
    IfOk-weaker c.journals.result _ _
    (λ journals are. subst (λ (t : HubSettings). AreClosedBooks t journals.items) c.in_ok-close.ensures.settings (its_closed_books c.close.new.self journals.items c.in_ok-close.ensures.closed are))
    c.journals.ensures.ok
