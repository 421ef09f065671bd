-- The table of a history: each of a participant's transfers, with the sums over them. An event
-- changes the table at one key at most. A choice of this hub.
use Rattle.std.specs.Prelude.{ℕ, ◌+◌, ◌-◌, Bool, ◌==◌, ◌&&◌, cond, is_none, List, [], ◌∷◌, ◌++◌}
use Rattle.std.specs.Prelude.{fold, Option, Some, None}
use Rattle.std.specs.List.{filter, filter_map}
use Rattle.inst_settings.specs.Settings.{same_text}
use Rattle.inst_command.specs.declared.entry.Entry.{Entry}
use Rattle.inst_command.specs.declared.outcome.Outcome.{Outcome}
use Rattle.inst_journal.specs.declared.event.Event.{Event}
use Rattle.inst_journal.specs.declared.event.Event.TheVariants.{Funded, Defunded, Taken, Forwarded}
use Rattle.inst_journal.specs.declared.event.Event.TheVariants.{Booked, Fetched, Opened}
use Rattle.inst_journal.specs.Sums.{if_accepted}
use Rattle.inst_transfers.specs.declared.transfer.Side.{Side}
use Rattle.inst_transfers.specs.declared.transfer.Side.TheVariants.{Own, Other}
use Rattle.inst_transfers.specs.declared.transfer.Transfer.{Transfer}

-- An originator and an identifier.
abbrev pub Key : Type 0
Key = ℕ × List ℕ

-- True if two keys are of the same transfer.
abbrev pub same_key : Key → Key → Bool
same_key x y = (x.0 == y.0) && same_text x.1 y.1

-- The table with this transfer at the key.
abbrev pub table_with : (Key → Option Transfer) → Key → Transfer → Key → Option Transfer
table_with f key t q = cond (same_key key q) (Some t) (f q)

-- The entry of the transfer that an event brings. For an own transfer its deadline is the time
-- stamp.
abbrev pub row_of : ℕ → Event → Option Entry
row_of who (Taken id to cents stamp) =
    Some (record { from = who; id = id; cents = cents; deadline = stamp })
row_of who (Forwarded from id cents deadline) =
    Some (record { from = from; id = id; cents = cents; deadline = deadline })
row_of who _ = None

-- The entries of all transfers of a history, in order of arrival.
abbrev pub rows_of : ℕ → List Event → List Entry
rows_of who J = filter_map (row_of who) J

-- The transfer at each key; the entries in order of arrival; the identifiers of the own live
-- transfers in the order of their places; the reserved, received and sent sums in cents.
pub record State : Type 0 where
  pub found : Key → Option Transfer
  pub rows : List Entry
  pub own : List (List ℕ)
  pub reserved : ℕ
  pub credits : ℕ
  pub debits : ℕ

-- The state of an empty table.
abbrev pub empty_table : State
empty_table =
    record { found = λ key. None; rows = []; own = []; reserved = 0; credits = 0; debits = 0 }

-- The transfer with this outcome.
abbrev pub with_outcome : Transfer → Outcome → Transfer
with_outcome t outcome = record { cents = t.cents; side = t.side; outcome = Some outcome }

-- The state after the outcome of a known transfer is booked.
abbrev pub table_after_outcome : State → Key → Transfer → Outcome → Side → State
table_after_outcome st key t outcome (Own to stamp) = record {
  found = table_with st.found key (with_outcome t outcome);
  rows = st.rows;
  own = st.own;
  reserved = st.reserved - t.cents;
  credits = st.credits;
  debits = st.debits + if_accepted (Some outcome) t.cents;
}
table_after_outcome st key t outcome (Other deadline) = record {
  found = table_with st.found key (with_outcome t outcome);
  rows = st.rows;
  own = st.own;
  reserved = st.reserved;
  credits = st.credits + if_accepted (Some outcome) t.cents;
  debits = st.debits;
}

-- The state after a booking. One of an unknown transfer changes nothing.
abbrev pub booked_in : State → Key → Outcome → Option Transfer → State
booked_in st key outcome None = st
booked_in st key outcome (Some t) = table_after_outcome st key t outcome t.side

-- The state after a submission.
abbrev pub taken_in : ℕ → State → List ℕ → ℕ → ℕ → ℕ → State
taken_in who st id to cents stamp = record {
  found = table_with st.found (
    who,
    id,
  ) (record { cents = cents; side = Own to stamp; outcome = None });
  rows = st.rows ++ record { from = who; id = id; cents = cents; deadline = stamp } ∷ [];
  own = st.own ++ id ∷ [];
  reserved = st.reserved + cents;
  credits = st.credits;
  debits = st.debits;
}

-- The state after a forwarding.
abbrev pub forwarded_in : State → ℕ → List ℕ → ℕ → ℕ → State
forwarded_in st from id cents deadline = record {
  found = table_with st.found (
    from,
    id,
  ) (record { cents = cents; side = Other deadline; outcome = None });
  rows = st.rows ++ record { from = from; id = id; cents = cents; deadline = deadline } ∷ [];
  own = st.own;
  reserved = st.reserved;
  credits = st.credits;
  debits = st.debits;
}

-- The booked outcome of a transfer, if there is one.
abbrev pub outcome_in : Option Transfer → Option Outcome
outcome_in None = None
outcome_in (Some t) = t.outcome

-- True if the own transfer of this identifier has no booked outcome.
abbrev pub waits_in : ℕ → State → List ℕ → Bool
waits_in who st id = is_none (outcome_in (st.found (who, id)))

-- The state after an opening: own transfers with a booked outcome are no longer live.
abbrev pub opened_in : ℕ → State → State
opened_in who st = record {
  found = st.found;
  rows = st.rows;
  own = filter (waits_in who st) st.own;
  reserved = st.reserved;
  credits = st.credits;
  debits = st.debits;
}

-- The state after one more event.
abbrev pub step : ℕ → State → Event → State
step who st (Taken id to cents stamp) = taken_in who st id to cents stamp
step who st (Forwarded from id cents deadline) = forwarded_in st from id cents deadline
step who st (Booked from id outcome) = booked_in st (from, id) outcome (st.found (from, id))
step who st Opened = opened_in who st
step who st (Funded funding) = st
step who st (Defunded funding) = st
step who st (Fetched count) = st

-- The table of a history.
abbrev pub table_of_history : ℕ → List Event → State
table_of_history who J = fold (step who) empty_table J
