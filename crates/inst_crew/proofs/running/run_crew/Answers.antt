use Rattle.std.proofs.Common.{sym, subst, List}
use Rattle.std.specs.Prelude.{IfOk, Option}
use Rattle.inst_desk.specs.declared.hand.Hand.{Hand}
use Rattle.inst_desk.specs.Desk.{AreHandsOf}
use Rattle.inst_hub.specs.declared.teller.Teller.{Teller}
use Rattle.inst_hub.specs.Calls.{AreOf}
use Rattle.inst_crew.specs.Crew.{IsSwept}
use Rattle.inst_crew.specs.inner.Workers.{AllWork}
use Rattle.inst_crew.proofs.PairsOfWorkersAndShifts.{all_ready}
use Rattle.inst_crew.proofs.WorkOfCrew.{worked_together, are_back}
use Rattle.inst_crew.proofs.running.run_crew.Goals as goal

pub start-worked-requires-clause-ready : goal.start-worked-requires-clause-ready
start-worked-requires-clause-ready g c κs within =
    let hands = subst (λ (l : List Hand). AreHandsOf c.args.place.now.desk.now l) (sym c.in_ok-workers.ensures.hands) c.requires.hands in
    let tellers = subst (λ (l : List Teller). AreOf c.args.place.now.hub.now l) (sym c.in_ok-workers.ensures.tellers) c.requires.tellers in
    all_ready _ _ _ hands tellers

pub returns-clause-worked : goal.returns-clause-worked
returns-clause-worked g c =
    let hub = c.args.place.now.hub.now in
    let desk = c.args.place.now.desk.now in
    let worked = subst (λ r. IfOk r (λ all. AllWork hub desk c.in_ok-workers.workers.items all.items)) c.in_ok-results.was c.start-worked.ensures.worked in
    let swept = subst (λ r. IfOk r (λ (t : Option Teller). IsSwept hub c.args.team.sweep t)) c.in_ok-sweeper.was c.start-worked.ensures.swept in
    let all = c.in_ok-crew.ensures.all in
    let e = c.in_ok-crew-2.ensures in
    worked_together hub desk c.args.team c.in_ok-sweeper.sweeper c.in_ok-workers.workers.items c.in_ok-results.results.items
    c.in_ok-crew.crew c.in_ok-crew-2.crew all.0 c.in_ok-workers.ensures.hands c.in_ok-workers.ensures.tellers worked all.1 all.2 swept e.hands e.tellers e.answered e.states

pub returns-clause-back : goal.returns-clause-back
returns-clause-back g c = are_back c.args.place.now.hub.now c.args.place.now.desk.now c.args.team _ (returns-clause-worked g c)
