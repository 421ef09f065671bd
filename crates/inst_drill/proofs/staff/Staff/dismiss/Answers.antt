use Rattle.std.proofs.Common.{sym, subst, List}
use Rattle.inst_desk.specs.declared.hand.Hand.{Hand}
use Rattle.inst_desk.specs.Desk.{AreAllHandsOf}
use Rattle.inst_drill.proofs.StaffOfOpening.{all_hands}
use Rattle.inst_drill.proofs.staff.Staff.dismiss.Goals as goal

pub returns-clause-hands : goal.returns-clause-hands
returns-clause-hands c = λ hub desk staff.
    subst (λ (l : List Hand). AreAllHandsOf desk l) (sym c.in_ok-push.ensures.items) (all_hands desk _ _ staff.hands staff.feeder staff.dealt)
