-- The tables of a pass: the terms of each transfer that was met, by its key. A choice of this hub.
use Rattle.std.specs.Prelude.{◌≡◌, ℕ, Bool, false, ◌==◌, ◌&&◌, List}
use Rattle.indexmap.specs.IndexMap.{IndexMap, get}
use Rattle.inst_journal.specs.declared.event.Event.{Event}
use Rattle.inst_journal.specs.declared.event.Event.TheVariants.{Funded, Defunded, Taken, Forwarded}
use Rattle.inst_journal.specs.declared.event.Event.TheVariants.{Booked, Fetched, Opened}
use Rattle.inst_journal.specs.Booked.{first_some, is_taken, is_forwarded}
use Rattle.inst_statement.specs.inner.Movement.{came, sent}
use Rattle.inst_settings.specs.Settings.{same_text}

-- True if two keys are of the same transfer.
abbrev pub is_same_transfer : ℕ × List ℕ → ℕ × List ℕ → Bool
is_same_transfer x y = (x.0 == y.0) && same_text x.1 y.1

-- The tables hold the transfers that these events have taken and forwarded.
pub record AreKept {S : Type 0} (front : List Event) (taken : IndexMap (List ℕ) (ℕ × ℕ) S)
    (forwarded : IndexMap (ℕ × List ℕ) ℕ S) : Type 0 where
  pub sent_terms : (id : List ℕ) → get same_text taken id ≡ first_some (sent id) front
  pub came_amount : (key : ℕ × List ℕ) →
      get is_same_transfer forwarded key ≡ first_some (came key.0 key.1) front

-- The event takes or forwards no transfer that is there.
abbrev pub IsNewTransfer : List Event → Event → Type 0
IsNewTransfer front (Taken id to cents stamp) = is_taken id front ≡ false
IsNewTransfer front (Forwarded from id cents deadline) = is_forwarded from id front ≡ false
IsNewTransfer front (Funded funding) = Unit {0}
IsNewTransfer front (Defunded funding) = Unit {0}
IsNewTransfer front (Booked from id outcome) = Unit {0}
IsNewTransfer front (Fetched count) = Unit {0}
IsNewTransfer front Opened = Unit {0}
