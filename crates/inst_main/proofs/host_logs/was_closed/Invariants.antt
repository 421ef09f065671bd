use Rattle.std.proofs.Common.{◌≡◌, drop}
use Rattle.inst_main.specs.HostLogs.{last_closed}
use Rattle.inst_main.proofs.host_logs.was_closed.Given as goal

-- the logs that are left have what all have
abbrev pub invariant-loop-one : goal.invariant-loop-one
invariant-loop-one g l = last_closed (drop l.one-index l.closed) l.name ≡ last_closed l.closed l.name
