use Rattle.std.proofs.lemmas.Result.{on_ok_weaker, IfErr-weaker}
use Rattle.inst_logged.proofs.MarksStayRight.{by_intact}
use Rattle.inst_logged.proofs.WholeRunOfLoggedHub.{ends_still}
use Rattle.inst_logged.proofs.hub.LoggedHub.open.Goals as goal

pub returns-clause-ok : goal.returns-clause-ok
returns-clause-ok g c =
    on_ok_weaker c.reopen.result (λ ok clean.
    let r = ok.1 clean in
    record { taken = r.taken; state = r.replayed.state; settled = r.settled; lines = r.lines; intact = by_intact c.args.self.now.version _ c.reopen.new.self.marker r.intact }) c.reopen.ensures.ok

pub returns-clause-err : goal.returns-clause-err
returns-clause-err g c = IfErr-weaker c.reopen.result _ _ (λ e ends. ends_still _ _ _ _ _ _ (Unit {0}) ⊥ e (λ _. tt) ends) c.reopen.ensures.err
