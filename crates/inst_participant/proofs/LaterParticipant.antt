-- The same participant later: twice, and behind its lock.
use Rattle.std.proofs.Common.{◌∙◌, ℕ}
use Rattle.inst_cell.specs.declared.shared_board.SharedBoard.{SharedBoard}
use Rattle.inst_participant.specs.declared.participant.Participant.{Participant}
use Rattle.inst_participant.specs.LockLaw.{IsReady, IsBehind, IsLater}

pub behind_later : (w : SharedBoard) (p : ℕ) (x y : Participant) → IsBehind w p x → IsLater x y → IsReady y → IsBehind w p y
behind_later w p x y was later ready = record {
  one = (later.stays.table ∙ was.one.0, later.stays.settings ∙ was.one.1);
  who = later.who ∙ was.who;
  ready = ready;
}

pub later_twice : (x y z : Participant) → IsLater x y → IsLater y z → IsLater x z
later_twice x y z first second = record {
  stays = record { settings = second.stays.settings ∙ first.stays.settings; table = second.stays.table ∙ first.stays.table; roles = second.stays.roles ∙ first.stays.roles };
  who = second.who ∙ first.who;
  settings = second.settings ∙ first.settings;
}
