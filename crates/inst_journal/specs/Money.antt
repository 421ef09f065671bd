-- A participant's money in cents: what is reserved, its position, and what is available. An amount
-- is reserved on the originator's prefunded position before the transfer is forwarded. A choice of
-- this hub.
use Rattle.std.specs.Prelude.{ℕ, ◌+◌, ◌-◌, List, sum_by}
use Rattle.inst_journal.specs.declared.event.Event.{Event}
use Rattle.inst_journal.specs.Sums.{funded, defunded, credits, debits, reservation}

-- The sum of the taken transfers without a booked outcome.
abbrev pub reserved : List Event → ℕ
reserved J = sum_by (reservation J) J

-- Net funding and credits, less debits; never below 0 in a sound history.
abbrev pub position : List Event → ℕ
position J = funded J + credits J - (defunded J + debits J)

-- The amount that may be submitted or defunded.
abbrev pub available : List Event → ℕ
available J = position J - reserved J
