-- The rules of time, each defined once; all are in milliseconds. A transfer's time limit counts
-- from the originator's time stamp and ends at its deadline (EPC004-16, chapter 4: time cycle). The
-- margin before it and the tolerated clock skew are a choice of this hub.
use Rattle.std.specs.Prelude.{ℕ, ◌+◌, Bool, not, nat_lt}

-- The deadline of a transfer with this time stamp.
abbrev pub deadline_of : ℕ → ℕ → ℕ
deadline_of limit stamp = stamp + limit

-- True if the clock reading is before the deadline.
abbrev pub is_in_time : ℕ → ℕ → Bool
is_in_time deadline at = nat_lt at deadline

-- True if a transfer with this deadline is due at the clock reading: it can only time out.
abbrev pub is_due : ℕ → ℕ → Bool
is_due deadline at = not (is_in_time deadline at)

-- True if a confirmation at the clock reading is more than the margin before the deadline.
abbrev pub is_in_time_to_accept : ℕ → ℕ → ℕ → Bool
is_in_time_to_accept margin deadline at = is_in_time deadline (at + margin)

-- True if the time stamp is further after the clock reading than is tolerated.
abbrev pub is_ahead : ℕ → ℕ → ℕ → Bool
is_ahead ahead stamp at = nat_lt (at + ahead) stamp
