-- The table agrees with a history: it finds and sums what a scan of the history finds and sums. A
-- choice of this hub.
use Rattle.std.specs.Prelude.{◌≡◌, ◌≢◌, ℕ, List, [], map, Option, Some, None}
use Rattle.inst_journal.specs.declared.event.Event.{Event}
use Rattle.inst_journal.specs.declared.event.Event.TheVariants.{Taken}
use Rattle.inst_journal.specs.Booked.{first_some, booked}
use Rattle.inst_journal.specs.Opened.{live_taken}
use Rattle.inst_journal.specs.Sound.{IsSound}
use Rattle.inst_settings.specs.Settings.{HubSettings}
use Rattle.inst_journal.specs.Money.{reserved}
use Rattle.inst_journal.specs.Sums.{credits, debits}
use Rattle.inst_ledger.specs.declared.sending.Forwarding.{Forwarding}
use Rattle.inst_ledger.specs.declared.sending.Sending.{Sending}
use Rattle.inst_ledger.specs.Kept.{sending_of, forwarding_of}
use Rattle.inst_transfers.specs.declared.transfer.Side.{Side}
use Rattle.inst_transfers.specs.declared.transfer.Side.TheVariants.{Own, Other}
use Rattle.inst_transfers.specs.declared.transfer.Transfer.{Transfer}
use Rattle.inst_transfers.specs.State.{Key, State, outcome_in, table_of_history, rows_of}

-- The details of a transfer that is the participant's own.
abbrev pub sending_by : ℕ → Side → Option Sending
sending_by cents (Own to stamp) = Some (record { to = to; cents = cents; stamp = stamp })
sending_by cents (Other deadline) = None

-- The same, for a transfer that may be missing.
abbrev pub sending_in : Option Transfer → Option Sending
sending_in None = None
sending_in (Some t) = sending_by t.cents t.side

-- The details of a transfer that was forwarded.
abbrev pub forwarding_by : ℕ → Side → Option Forwarding
forwarding_by cents (Own to stamp) = None
forwarding_by cents (Other deadline) = Some (record { cents = cents; deadline = deadline })

-- The same, for a transfer that may be missing.
abbrev pub forwarding_in : Option Transfer → Option Forwarding
forwarding_in None = None
forwarding_in (Some t) = forwarding_by t.cents t.side

-- The identifier of the transfer that the event takes.
abbrev pub id_of : Event → List ℕ
id_of (Taken id to cents stamp) = id
id_of _ = []

-- The identifiers of the participant's own live transfers, in the order of their places.
abbrev pub own_ids : ℕ → List Event → List (List ℕ)
own_ids who J = map id_of (live_taken who J)

-- The table's state agrees with the history in every lookup, list and sum.
pub record IsRight (who : ℕ) (J : List Event) (st : State) : Type 0 where
  pub taken : (id : List ℕ) → sending_in (st.found (who, id)) ≡ first_some (sending_of id) J
  pub others : (key : Key) → key.0 ≢ who → sending_in (st.found key) ≡ None
  pub forwarded : (key : Key) → forwarding_in (st.found key) ≡ first_some (forwarding_of key) J
  pub booked : (key : Key) → outcome_in (st.found key) ≡ booked key.0 key.1 J
  pub rows : st.rows ≡ rows_of who J
  pub own : st.own ≡ own_ids who J
  pub reserved : st.reserved ≡ reserved J
  pub credits : st.credits ≡ credits J
  pub debits : st.debits ≡ debits J

-- The table of every sound history agrees with it.
abbrev pub ATableIsRight : Type 0
ATableIsRight =
    (s : HubSettings) (who : ℕ) (J : List Event) → IsSound s who J →
    IsRight who J (table_of_history who J)
