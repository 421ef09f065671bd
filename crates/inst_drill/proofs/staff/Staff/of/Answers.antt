use Rattle.std.proofs.Common.{sym, ap, ◌∙◌}
use Rattle.inst_hub.specs.Opening.{row_parts}
use Rattle.inst_drill.proofs.StaffOfOpening.{hands_apart, tellers_apart}
use Rattle.inst_drill.proofs.staff.Staff.of.Goals as goal

pub returns : goal.returns
returns c =
    let hands = hands_apart _ _ _ _ c.in-Some.ensures.items c.requires.hands.0 c.requires.hands.1 in
    let tellers = tellers_apart _ _ _ _ c.in-Some-pop.ensures.items c.requires.tellers.0 c.requires.tellers.1 in
    record {
      feeder = hands.0;
      hands = hands.1.0;
      two = hands.1.1.0;
      dealt = hands.1.1.1;
      sweeper = tellers.0;
      tellers = tellers.1.0;
      each = tellers.1.1;
      parts = ap row_parts (sym c.in-Some-pop.ensures.items) ∙ c.requires.parts;
    }
