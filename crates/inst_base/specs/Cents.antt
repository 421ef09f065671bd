-- Amounts in whole euro cents. The rulebook has transfers in euro with two decimals (EPC004-16,
-- chapter 2: currency); the bounds, 1 to 99,999,999,999, are a choice of this hub.
use Rattle.std.specs.Prelude.{ℕ, Bool, ◌&&◌, nat_le, if◌then◌else◌, Result, Ok, Err}
use Rattle.inst_base.specs.declared.cents.TheConstants.{MOST_CENTS}
use Rattle.inst_base.specs.declared.fault.Fault.{Fault}
use Rattle.inst_base.specs.declared.fault.Fault.TheVariants.{BadAmount}

-- True if this number of cents is an amount.
abbrev pub is_amount : ℕ → Bool
is_amount cents = nat_le 1 cents && nat_le cents MOST_CENTS

-- The amount of this many cents, or `BadAmount`.
abbrev pub cents_of : ℕ → Result ℕ Fault
cents_of cents = if is_amount cents then Ok cents else Err BadAmount
