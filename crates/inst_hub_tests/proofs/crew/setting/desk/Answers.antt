use Rattle.std.proofs.Common.{sym, subst, List}
use Rattle.inst_desk.specs.declared.hand.Hand.{Hand}
use Rattle.inst_desk.specs.Desk.{AreHandsOf}
use Rattle.inst_crew.proofs.LastHand.{last_hand, with_last}
use Rattle.inst_hub_tests.proofs.crew.setting.desk.Goals as goal

pub put_all-requires : goal.put_all-requires
put_all-requires g c = last_hand _ _ _ _ c.in_ok-desk.ensures.all.of c.in-Some.ensures.items

pub returns-clause-of : goal.returns-clause-of
returns-clause-of g c =
    subst (λ (l : List Hand). AreHandsOf c.in_ok-desk.desk l) (sym c.in_ok-push.ensures.items)
    (with_last _ _ _ _ _ c.in_ok-desk.ensures.all.of c.in-Some.ensures.items c.put_all.ensures)
