use Rattle.std.proofs.Common.{arith}
use Rattle.std.proofs.lemmas.Grind.{common_steps}
use Rattle.inst_drill.proofs.StaffOfOpening.{sweeper_later, more_and_more}
use Rattle.inst_drill.proofs.staff.Staff.sweep.Goals as goal

pub returns-clause-later : goal.returns-clause-later
returns-clause-later g c =
    sweeper_later _ _ _ _ c.requires.staff.1.tellers c.sweep-2.ensures.of (more_and_more _ _ _ c.sweep.ensures.knows c.sweep-2.ensures.knows)

pub returns-in_err-sweep-clause-staff : goal.returns-in_err-sweep-clause-staff
returns-in_err-sweep-clause-staff g c = grind (arith, common_steps)

pub returns-in_err-sweep-2-clause-staff : goal.returns-in_err-sweep-2-clause-staff
returns-in_err-sweep-2-clause-staff g c = grind (arith, common_steps)

pub returns-clause-staff : goal.returns-clause-staff
returns-clause-staff g c = grind (arith, common_steps)
