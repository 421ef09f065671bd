-- A sweep in a hub on many threads: everything that waits for one participant, done under its lock.
-- A choice of this hub.
use Rattle.std.specs.Prelude.{◌≡◌, ℕ, [], ◌∷◌, ◌++◌, Result, is_ok, IfOk}
use Rattle.std.specs.declared.alloc.AllocError.{AllocError}
use Rattle.inst_row.specs.View.{front}
use Rattle.inst_row.specs.Row.{key_of}
use Rattle.inst_row.specs.Seated.{GoesOn}
use Rattle.inst_participant.specs.declared.participant.Participant.{Participant}
use Rattle.inst_participant.specs.Told.{IsToldAll}
use Rattle.inst_participant.specs.Sweeping.{Sweeps, IsWholeSweep}
use Rattle.inst_hub.specs.declared.hub.Hub.{Hub}
use Rattle.inst_hub.specs.declared.teller.Teller.{Teller}
use Rattle.inst_hub.specs.Founding.{IsSince}
use Rattle.inst_hub.specs.Calls.{fronts_seen}

-- A sweep of participant `who` at clock reading `at`.
-- - found, left: the participant as it was found behind its lock, and as it was left.
-- - behind: it is that participant, and nothing was opened since the hub's opening.
-- - goes_on: the history that was found extends all that the teller had seen of it.
-- - seen: the teller has seen these two histories, and nothing else.
-- - told, sweeps: the participant was swept, whole or until allocation failed.
-- - whole: how many events were stored; after a whole sweep no own due transfer is pending.
pub record IsSweep (h : Hub) (t : Teller) (who at : ℕ) (result : Result ℕ AllocError) (u : Teller) :
    Type 0 where
  pub found : Participant
  pub left : Participant
  pub behind : IsSince (key_of h.row) who found
  pub goes_on : GoesOn who found.slot.events t.seat
  pub seen : fronts_seen u
      ≡ fronts_seen t ++ front who found.slot.events ∷ front who left.slot.events ∷ []
  pub told : IsToldAll found.slot.events left.slot.events
  pub sweeps : Sweeps at (is_ok result) found left
  pub whole : IfOk result (IsWholeSweep at found left)
