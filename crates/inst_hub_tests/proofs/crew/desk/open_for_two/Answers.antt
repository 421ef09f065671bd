use Rattle.std.proofs.Common.{ap, ◌∙◌, List}
use Rattle.std.specs.Prelude.{slice_get}
use Rattle.inst_desk.specs.declared.hand.Hand.{Hand}
use Rattle.inst_desk.specs.Desk.{AreHandsOf}
use Rattle.inst_crew.proofs.LastHand.{at_front, last_hand}
use Rattle.inst_hub_tests.proofs.crew.desk.open_for_two.Goals as goal

pub returns : goal.returns
returns c =
    let all = c.in_ok-desk.ensures.all.of in
    let others : AreHandsOf c.in_ok-desk.desk c.pop.new.self.items =
    (λ i g at. all i g (ap (λ (l : List Hand). slice_get l i) c.in-Some.ensures.items ∙ at_front _ _ i g at)) in
    (last_hand _ _ _ _ others c.in-Some-pop.ensures.items, last_hand _ _ _ _ all c.in-Some.ensures.items)
