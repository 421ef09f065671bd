-- Moments of a hub, in milliseconds since its base. The rulebook (EPC004-16, chapter 4: time cycle)
-- counts time limits from the originator's time stamp; the unit and the range are a choice of this
-- hub.
use Rattle.std.specs.Prelude.{ℕ, ◌-◌, Bool, ◌&&◌, nat_le, if◌then◌else◌, Result, Ok, Err}
use Rattle.inst_base.specs.declared.moment.TheConstants.{LAST}
use Rattle.inst_base.specs.declared.fault.Fault.{Fault}
use Rattle.inst_base.specs.declared.fault.Fault.TheVariants.{BadMoment}

-- True if this number of milliseconds since the base is a moment.
abbrev pub is_moment : ℕ → Bool
is_moment past_base = nat_le past_base LAST

-- The moment of these absolute milliseconds, or `BadMoment`.
abbrev pub moment_of : ℕ → ℕ → Result ℕ Fault
moment_of base ms =
    if nat_le base ms && is_moment (ms - base) then Ok (ms - base) else Err BadMoment
