-- A taken amount is reserved, debited or released, and only one of them. A choice of this hub.
use Rattle.std.specs.Prelude.{◌≡◌, ◌⊎◌, ℕ, ◌+◌, Option}
use Rattle.inst_command.specs.declared.outcome.Outcome.{Outcome}
use Rattle.inst_command.specs.declared.outcome.Outcome.TheVariants.{Accepted, Rejected, TimedOut}

-- The amount if an outcome other than Accepted is booked, else 0.
abbrev pub if_released : Option Outcome → ℕ → ℕ
if_released Option.None cents = 0
if_released (Option.Some Accepted) cents = 0
if_released (Option.Some (Rejected reason)) cents = cents
if_released (Option.Some TimedOut) cents = cents

-- One of the three is the amount, and the other two are 0.
pub record IsOneOf (cents a b c : ℕ) : Type 0 where
  pub one : (a ≡ cents) ⊎ ((b ≡ cents) ⊎ (c ≡ cents))
  pub only : a + b + c ≡ cents
