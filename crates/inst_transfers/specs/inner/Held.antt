-- Transfers without a booked outcome, and the index of a position in a list.
use Rattle.std.specs.Prelude.{◌≡◌, ◌≢◌, ℕ, Bool, false, is_none, List, slice_get, Option, Some}
use Rattle.std.specs.Prelude.{None}
use Rattle.inst_transfers.specs.declared.transfer.Transfer.{Transfer}
use Rattle.inst_transfers.specs.State.{Key}

-- True if the transfer of a row has no booked outcome.
abbrev pub waits_row : Option (Key × Transfer) → Bool
waits_row None = false
waits_row (Some e) = is_none e.1.outcome

-- True if the transfer at the position has no booked outcome.
abbrev pub waits_at : List (Key × Transfer) → ℕ → Bool
waits_at entries p = waits_row (slice_get entries p)

-- The result of searching a list for a position: an index, or none if it isn't there.
abbrev pub FindsIndex : List ℕ → ℕ → Option ℕ → Type 0
FindsIndex ps p None = (k : ℕ) → slice_get ps k ≢ Some p
FindsIndex ps p (Some k) = slice_get ps k ≡ Some p
