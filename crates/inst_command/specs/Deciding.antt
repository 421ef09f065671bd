-- The outcome that a command gives a pending transfer, by its clock reading. Before the deadline
-- the beneficiary's answer counts (EPC004-16, chapter 4: positive and negative confirmation). From
-- the deadline on any of these commands times the transfer out, and within the margin before it a
-- confirmation doesn't count. The last is a choice of this hub.
use Rattle.std.specs.Prelude.{ℕ, if◌then◌else◌, List, Option, Some, None}
use Rattle.inst_base.specs.TimeLimit.{is_due, is_in_time_to_accept}
use Rattle.inst_command.specs.declared.outcome.Outcome.{Outcome}
use Rattle.inst_command.specs.declared.outcome.Outcome.TheVariants.{Accepted, Rejected, TimedOut}

-- `TimedOut` from the deadline on, `early` before it.
abbrev pub timed_out_or : ℕ → ℕ → Option Outcome → Option Outcome
timed_out_or deadline at early = if is_due deadline at then Some TimedOut else early

-- The outcome that a confirmation gives.
abbrev pub confirmed : ℕ → ℕ → ℕ → Option Outcome
confirmed margin deadline at =
    timed_out_or deadline at (if is_in_time_to_accept margin deadline at then Some Accepted
    else None)

-- The outcome that a rejection with this reason gives.
abbrev pub rejected : List ℕ → ℕ → ℕ → Option Outcome
rejected reason deadline at = timed_out_or deadline at (Some (Rejected reason))

-- The outcome that an investigation or an expiry gives.
abbrev pub expired : ℕ → ℕ → Option Outcome
expired deadline at = timed_out_or deadline at None
