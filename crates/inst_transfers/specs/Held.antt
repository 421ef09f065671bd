-- The contract's view of a table of transfers: its state, the position of each transfer, and its
-- capacity. A choice of this hub.
use Rattle.std.specs.Prelude.{◌≡◌, ℕ, ◌+◌, ◌≤◌, ◌<◌, ◌^◌, List, [], ◌∷◌, length, map, slice_get}
use Rattle.std.specs.Prelude.{Option, Some, None}
use Rattle.std.specs.Map.{lookup, keys_of}
use Rattle.inst_command.specs.declared.entry.Entry.{Entry}
use Rattle.inst_transfers.specs.declared.transfer.Found.{Found}
use Rattle.inst_transfers.specs.declared.transfer.Side.{Side}
use Rattle.inst_transfers.specs.declared.transfer.Side.TheVariants.{Own, Other}
use Rattle.inst_transfers.specs.declared.transfer.Transfer.{Transfer}
use Rattle.inst_transfers.specs.State.{Key, same_key, State}

-- The entries of the table in order of arrival, the positions of the participant's own live
-- transfers, the sums in cents, and the number of transfers (room) that can be added without
-- allocating.
pub record Held : Type 0 where
  pub who : ℕ
  pub entries : List (Key × Transfer)
  pub positions : List ℕ
  pub reserved : ℕ
  pub credits : ℕ
  pub debits : ℕ
  pub room : ℕ

-- The identifier of the key at a position.
abbrev pub id_in : Option Key → List ℕ
id_in None = []
id_in (Some key) = key.1

-- The identifiers of the keys at these positions.
abbrev pub ids_at : List Key → List ℕ → List (List ℕ)
ids_at ks positions = map (λ p. id_in (slice_get ks p)) positions

-- Each position is within a table of n entries.
abbrev pub AreWithin : ℕ → List ℕ → Type 0
AreWithin n [] = Unit {0}
AreWithin n (p ∷ ps) = (p < n) × AreWithin n ps

-- Each position is that of an own transfer of the participant.
abbrev pub AreOwn : ℕ → List Key → List ℕ → Type 0
AreOwn who ks [] = Unit {0}
AreOwn who ks (p ∷ ps) = (slice_get ks p ≡ Some (who, id_in (slice_get ks p))) × AreOwn who ks ps

-- The position is less than each of these.
abbrev pub AreAbove : ℕ → List ℕ → Type 0
AreAbove p [] = Unit {0}
AreAbove p (q ∷ qs) = (p < q) × AreAbove p qs

-- The positions rise.
abbrev pub AreRising : List ℕ → Type 0
AreRising [] = Unit {0}
AreRising (p ∷ ps) = AreAbove p ps × AreRising ps

-- Valid positions of the participant's own live transfers: within the table, its own, and rising.
abbrev pub ArePositions : ℕ → List Key → List ℕ → Type 0
ArePositions who ks ps = AreWithin (length ks) ps × AreOwn who ks ps × AreRising ps

-- The transfer at a key of the table.
abbrev pub found_at : List (Key × Transfer) → Key → Option Transfer
found_at entries key = lookup (same_key key) entries

-- The deadline of a transfer; of an own one, its time stamp.
abbrev pub time_in : Side → ℕ
time_in (Own to stamp) = stamp
time_in (Other deadline) = deadline

-- The entry of a transfer in the table. For an own transfer its deadline is the time stamp.
abbrev pub row_in : Key × Transfer → Entry
row_in e = record { from = e.0.0; id = e.0.1; cents = e.1.cents; deadline = time_in e.1.side }

-- The entries of all transfers, in order of arrival. No booking changes them.
abbrev pub rows_in : List (Key × Transfer) → List Entry
rows_in entries = map row_in entries

-- No two entries are of the same transfer.
abbrev pub AreApart : List Entry → Type 0
AreApart rows =
    (i j : ℕ) (x y : Entry) → slice_get rows i ≡ Some x → slice_get rows j ≡ Some y →
    x.from ≡ y.from →
    x.id ≡ y.id → i ≡ j

-- The state of the table, comparable with that of a history (table_of_history).
abbrev pub state_in : Held → State
state_in held = record {
  found = found_at held.entries;
  rows = rows_in held.entries;
  own = ids_at (keys_of held.entries) held.positions;
  reserved = held.reserved;
  credits = held.credits;
  debits = held.debits;
}

-- The found transfer is what the table has at its key, and at its position.
pub record IsFound (held : Held) (f : Found) : Type 0 where
  pub row : slice_get held.entries f.position ≡ Some ((f.from, f.id), f.transfer)
  pub transfer : found_at held.entries (f.from, f.id) ≡ Some f.transfer

-- The result of looking a key up.
abbrev pub IsLookedUp : Held → ℕ → List ℕ → Option Found → Type 0
IsLookedUp held from id None = found_at held.entries (from, id) ≡ None
IsLookedUp held from id (Some f) = (f.from ≡ from) × (f.id ≡ id) × IsFound held f

-- The result of reading a position.
abbrev pub FindsAt : Held → ℕ → Option Found → Type 0
FindsAt held position None = length held.entries ≤ position
FindsAt held position (Some f) = (f.position ≡ position) × IsFound held f

-- The result of reading the place of an own live transfer.
abbrev pub FindsOwn : Held → ℕ → Option Found → Type 0
FindsOwn held index None = slice_get (state_in held).own index ≡ None
FindsOwn held index (Some f) =
    (f.from ≡ held.who) × (slice_get (state_in held).own index ≡ Some f.id) × IsFound held f

-- Booking can't overflow: the amount is part of the reserved sum, and the sum that grows stays
-- below 2 ^ 128.
abbrev pub CoversSide : State → ℕ → Side → Type 0
CoversSide st cents (Own to stamp) = (cents ≤ st.reserved) × (st.debits + cents < 2 ^ 128)
CoversSide st cents (Other deadline) = st.credits + cents < 2 ^ 128

-- The same, for a transfer.
abbrev pub CoversEntry : State → Transfer → Type 0
CoversEntry st t = CoversSide st t.cents t.side
