use Rattle.std.proofs.Common.{◌∷◌, [], arith}
use Rattle.std.proofs.lemmas.Grind.{common_steps}
use Rattle.inst_crew.proofs.PairsOfWorkersAndShifts.{seen_with}
use Rattle.inst_drill.proofs.staff.Staff.submit.Goals as goal

pub returns-clause-states : goal.returns-clause-states
returns-clause-states g c = seen_with c.in_ok-crew.crew.tellers.items (c.args.self.sweeper ∷ []) c.in_ok-crew.crew.states.items c.in_ok-crew.ensures.worked.states

pub returns-clause-staff : goal.returns-clause-staff
returns-clause-staff g c = grind (arith, common_steps)
