-- The asks that fit a hub. The commands stand for the scheme's messages between a participant and
-- the mechanism (EPC004-16, chapter 4, processing flow: submission, positive and negative
-- confirmation, investigation); funding, fetching, positions and statements are this hub's own.
use Rattle.std.specs.Prelude.{ℕ, Bool, true, ◌&&◌, nat_le}
use Rattle.inst_base.specs.Moment.{is_moment}
use Rattle.inst_base.specs.TimeLimit.{deadline_of}
use Rattle.inst_settings.specs.Settings.{HubSettings, is_participant, is_within_ceiling}
use Rattle.inst_command.specs.declared.command.Command.{Command}
use Rattle.inst_command.specs.declared.command.Command.TheVariants.{Fund, Defund, Submit, Confirm}
use Rattle.inst_command.specs.declared.command.Command.TheVariants.{Reject, Investigate, Fetch}
use Rattle.inst_command.specs.declared.command.Command.TheVariants.{Query}
use Rattle.inst_command.specs.declared.ask.Ask.{Ask}
use Rattle.inst_command.specs.declared.query.Query.{Query as QueryValue}
use Rattle.inst_command.specs.declared.query.Query.TheVariants.{Position, Statement}
use Rattle.inst_command.specs.declared.count.TheConstants.{MOST_COUNT}

-- True if a command may ask for this number of entries or lines.
abbrev pub is_count : ℕ → Bool
is_count count = nat_le 1 count && nat_le count MOST_COUNT

-- True if the query may be asked.
abbrev pub query_fits : QueryValue → Bool
query_fits Position = true
query_fits (Statement skip count) = is_count count

-- True if the command fits a hub with these settings.
abbrev pub command_fits : HubSettings → Command → Bool
command_fits s (Fund funding) = is_within_ceiling s funding.cents
command_fits s (Defund funding) = is_within_ceiling s funding.cents
command_fits s (Submit submission) =
    is_participant s submission.to && is_within_ceiling s submission.cents
    && is_moment (deadline_of s.limit submission.stamp)
command_fits s (Confirm from id) = is_participant s from
command_fits s (Reject from id reason) = is_participant s from
command_fits s (Investigate id) = true
command_fits s (Fetch max) = is_count max
command_fits s (Query query) = query_fits query

-- True if the ask fits a hub with these settings.
abbrev pub ask_fits : HubSettings → Ask → Bool
ask_fits s ask = is_participant s ask.who && command_fits s ask.command
