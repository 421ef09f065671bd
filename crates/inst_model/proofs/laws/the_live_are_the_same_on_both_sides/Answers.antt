use Rattle.inst_model.proofs.LiveTransfersOnBothSides.{the_live_are_the_same_on_both_sides, at_an_opening_the_live_have_come}
use Rattle.inst_model.proofs.laws.the_live_are_the_same_on_both_sides.Goals as goal

pub returns : goal.returns
returns c = record { both = the_live_are_the_same_on_both_sides; at_an_opening = at_an_opening_the_live_have_come }
