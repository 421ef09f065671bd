-- A participant's books aren't overdrawn. A choice of this hub.
use Rattle.std.specs.Prelude.{◌≡◌, pos, ◌+◌, ◌≤◌, ◌+ℤ◌, ◌-ℤ◌, List}
use Rattle.inst_journal.specs.declared.event.Event.{Event}
use Rattle.inst_journal.specs.Sums.{net, funded, defunded, credits, debits}
use Rattle.inst_journal.specs.Money.{reserved, position, available}

-- Funding and credits cover defunding, debits and what is reserved. So the position is net funding
-- and credits less debits, what is available is the position less what is reserved, and neither is
-- below 0.
pub record IsNeverOverdrawn (J : List Event) : Type 0 where
  pub covered : defunded J + debits J + reserved J ≤ funded J + credits J
  pub position_is : pos (position J) ≡ ((net J +ℤ pos (credits J)) -ℤ pos (debits J))
  pub available_is : pos (available J) ≡ (pos (position J) -ℤ pos (reserved J))
