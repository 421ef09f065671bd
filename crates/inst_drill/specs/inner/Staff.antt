-- The staff of an opening of a drill. A choice of this hub.
use Rattle.std.specs.Prelude.{◌≡◌, ◌+◌, List, [], ◌∷◌, ◌++◌, length, sum_by}
use Rattle.inst_desk.specs.declared.desk.Desk.{Desk}
use Rattle.inst_desk.specs.Desk.{IsHandOf, AreHandsOf, hand_parts as parts_of_hand}
use Rattle.inst_hub.specs.declared.hub.Hub.{Hub}
use Rattle.inst_hub.specs.declared.teller.Teller.{Teller}
use Rattle.inst_hub.specs.Calls.{IsTellerOf, AreOf}
use Rattle.inst_hub.specs.Opening.{HaveAllParts}
use Rattle.inst_drill.specs.declared.staff.Staff.{Staff}
use Rattle.inst_desk.specs.declared.desk.opening.TheConstants.{MOST_HANDS}

-- All its tellers, the sweeper's last.
abbrev pub tellers_of : Staff → List Teller
tellers_of staff = staff.tellers.items ++ staff.sweeper ∷ []

-- Two hands with a teller each, one more hand and one more teller: all hands of this desk, and all
-- tellers of this hub.
pub record IsStaffOf (hub : Hub) (desk : Desk) (staff : Staff) : Type 0 where
  pub feeder : IsHandOf desk staff.feeder
  pub hands : AreHandsOf desk staff.hands.items
  pub two : length staff.hands.items ≡ 2
  pub dealt : sum_by parts_of_hand staff.hands.items + parts_of_hand staff.feeder ≡ MOST_HANDS
  pub sweeper : IsTellerOf hub staff.sweeper
  pub tellers : AreOf hub staff.tellers.items
  pub each : length staff.tellers.items ≡ 2
  pub parts : HaveAllParts (tellers_of staff)
