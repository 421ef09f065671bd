-- Lookups by key in a history, and tables that return the same. A choice of this hub.
use Rattle.std.specs.Prelude.{◌≡◌, ℕ, if◌then◌else◌, List, Option, Some, None}
use Rattle.inst_settings.specs.Settings.{same_text}
use Rattle.inst_journal.specs.declared.event.Event.{Event}
use Rattle.inst_journal.specs.declared.event.Event.TheVariants.{Taken, Forwarded}
use Rattle.inst_journal.specs.Booked.{first_some, same_transfer}
use Rattle.inst_ledger.specs.declared.sending.Forwarding.{Forwarding}
use Rattle.inst_ledger.specs.declared.sending.Sending.{Sending}

-- The details of the submission with this identifier, if the event takes it.
abbrev pub sending_of : List ℕ → Event → Option Sending
sending_of id (Taken other to cents stamp) =
    if same_text other id then Some (record { to = to; cents = cents; stamp = stamp }) else None
sending_of id _ = None

-- The details of the transfer of this key, if the event forwards it.
abbrev pub forwarding_of : ℕ × List ℕ → Event → Option Forwarding
forwarding_of key (Forwarded from id cents deadline) =
    if same_transfer key.0 key.1 from id then Some (record { cents = cents; deadline = deadline })
    else None
forwarding_of key _ = None

-- The table has at each key what a scan of the events finds first.
abbrev pub IsTable : {K V : Type 0} → (K → Event → Option V) → List Event → (K → Option V) → Type 0
IsTable {K} gives J found = (k : K) → found k ≡ first_some (gives k) J
