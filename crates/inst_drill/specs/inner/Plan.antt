-- The plans of drills, and their asks. Drills are a choice of this hub.
use Rattle.std.specs.Prelude.{◌≡◌, ℕ, ◌+◌, ◌/◌, ◌<◌, ◌≤◌, ◌++◌, codes}
use Rattle.std.specs.Fmt.{decimal}
use Rattle.inst_base.specs.TimeLimit.{deadline_of}
use Rattle.inst_settings.specs.Settings.{HubSettings, participants}
use Rattle.inst_settings.specs.declared.ranges.TheConstants.{MOST_PLACES}
use Rattle.inst_command.specs.declared.ask.Ask.{Ask}
use Rattle.inst_command.specs.declared.command.Command.TheVariants.{Submit, Confirm}
use Rattle.inst_hub.specs.declared.teller.Teller.{Teller}
use Rattle.inst_crew.specs.declared.sweep.Sweep.{Sweep}
use Rattle.inst_drill.specs.declared.plan.Plan.{Plan}

-- The plan suits a hub with these settings.
-- - deadline: that of transfers with stamp 0.
-- - in_time: `last` is the last moment at which they can be confirmed.
pub record IsPlan (s : HubSettings) (plan : Plan) : Type 0 where
  pub two : 2 ≤ participants s
  pub some_transfer : 0 < plan.transfers
  pub most_transfers : plan.transfers ≤ MOST_PLACES
  pub some_cents : 1 ≤ plan.funding
  pub within : plan.funding ≤ s.ceiling
  pub deadline : plan.deadline ≡ deadline_of s.limit 0
  pub in_time : plan.last + s.margin + 1 ≡ plan.deadline

-- Participant 0 submits 100 cents to participant 1, with stamp 0.
abbrev pub submission_of : ℕ → Ask
submission_of number =
    record {
      who = 0;
      command =
          Submit (record { id = codes "D" ++ decimal number; to = 1; cents = 100; stamp = 0 });
      at = 0;
    }

-- Participant 1 confirms them at the last moment in time.
abbrev pub confirmation_of : Plan → ℕ → Ask
confirmation_of plan number =
    record { who = 1; command = Confirm 0 (codes "D" ++ decimal number); at = plan.last }

-- The sweep of participant 0 by this teller at the deadline, once half of the transfers are
-- confirmed.
pub record IsSweepOf (plan : Plan) (teller : Teller) (sweep : Sweep) : Type 0 where
  pub by : sweep.teller ≡ teller
  pub who : sweep.who ≡ 0
  pub at : sweep.at ≡ plan.deadline
  pub after : sweep.after ≡ plan.transfers / 2
