-- Checks made once all fields of a line were read, in this order: amount, moments, participants.
-- The order is a choice of this hub.
use Rattle.std.specs.Prelude.{ℕ, List, ok_or, Result, Ok, Err, if◌then◌else◌}
use Rattle.inst_base.specs.Moment.{is_moment, moment_of}
use Rattle.inst_base.specs.TimeLimit.{deadline_of}
use Rattle.inst_base.specs.declared.fault.Fault.{Fault}
use Rattle.inst_base.specs.declared.fault.Fault.TheVariants.{BadAmount, BadMoment}
use Rattle.inst_base.specs.declared.fault.Fault.TheVariants.{UnknownParticipant}
use Rattle.inst_settings.specs.Settings.{HubSettings, is_within_ceiling}
use Rattle.inst_settings.specs.Codes.{index_of}
use Rattle.inst_json.specs.Refusals.{◌>>=◌}

-- An amount of 1 cent to the ceiling.
unfoldable pub amount_of : HubSettings → ℕ → Result ℕ Fault
amount_of s cents = if is_within_ceiling s cents then Ok cents else Err BadAmount

-- A time stamp whose deadline is a moment of the hub too.
unfoldable pub stamp_of : HubSettings → ℕ → Result ℕ Fault
stamp_of s ms = do
  stamp ← moment_of s.base ms
  if is_moment (deadline_of s.limit stamp) then Ok stamp else Err BadMoment

-- The number of the participant with this code.
unfoldable pub participant_of : HubSettings → List ℕ → Result ℕ Fault
participant_of s code = ok_or (index_of code s.codes) UnknownParticipant
