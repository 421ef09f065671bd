-- Own live transfers without a booked outcome, by deadline (EPC004-16, chapter 4: time-out
-- deadline), and at the same deadline by place. The order by place is a choice of this hub.
use Rattle.std.specs.Prelude.{◌≡◌, ℕ, Bool, true, false, ◌&&◌, nat_eq, is_none, List, map}
use Rattle.std.specs.Prelude.{slice_get, Option, Some, None}
use Rattle.inst_base.specs.TimeLimit.{deadline_of}
use Rattle.inst_settings.specs.Settings.{HubSettings}
use Rattle.inst_settings.specs.Lawful.{IsSettings}
use Rattle.inst_due.specs.Due.{has, comes_before, comes_after}
use Rattle.inst_journal.specs.declared.event.Event.{Event}
use Rattle.inst_journal.specs.declared.event.Event.TheVariants.{Taken}
use Rattle.inst_journal.specs.Booked.{booked}
use Rattle.inst_journal.specs.Opened.{live_taken}
use Rattle.inst_journal.specs.Sound.{IsSound}
use Rattle.inst_slot.specs.Book.{Book}
use Rattle.inst_ledger.specs.Right.{own_ids}

-- True if the event takes a transfer of this deadline that has no booked outcome.
abbrev pub takes_waiting : HubSettings → ℕ → List Event → ℕ → Option Event → Bool
takes_waiting s who J deadline (Some (Taken id to cents stamp)) =
    is_none (booked who id J) && nat_eq deadline (deadline_of s.limit stamp)
takes_waiting s who J deadline _ = false

-- True if the own live transfer at this index has this deadline and no booked outcome.
abbrev pub waits : HubSettings → ℕ → List Event → ℕ → ℕ → Bool
waits s who J deadline index = takes_waiting s who J deadline (slice_get (live_taken who J) index)

-- The least pair of deadline and index after this one, of those without a booked outcome.
pub record IsNextDue (book : Book) (pair : Option (ℕ × ℕ)) (next : ℕ × ℕ) : Type 0 where
  pub there : waits book.settings book.who book.events next.0 next.1 ≡ true
  pub passing : comes_after pair next ≡ true
  pub least : (d k : ℕ) → waits book.settings book.who book.events d k ≡ true →
      comes_after pair (d, k) ≡ true →
      comes_before (d, k) next ≡ false

-- That next pair, or none if there is none.
abbrev pub GivesNextDue : Book → Option (ℕ × ℕ) → Option (ℕ × ℕ) → Type 0
GivesNextDue book pair None =
    (d k : ℕ) → waits book.settings book.who book.events d k ≡ true →
    comes_after pair (d, k) ≡ false
GivesNextDue book pair (Some next) = IsNextDue book pair next

-- The deadlines of own live transfers in the order of their places, and the pairs of those without
-- a booked outcome.
pub record Deadlines : Type 0 where
  pub deadlines : List ℕ
  pub pairs : List (ℕ × ℕ)

-- The deadline of the transfer that the event takes.
abbrev pub deadline_in : HubSettings → Event → ℕ
deadline_in s (Taken id to cents stamp) = deadline_of s.limit stamp
deadline_in s _ = 0

-- The deadlines of the own live transfers, in the order of their places.
abbrev pub own_deadlines : HubSettings → ℕ → List Event → List ℕ
own_deadlines s who J = map (deadline_in s) (live_taken who J)

-- The deadlines and the pairs agree with the history.
pub record IsWaiting (s : HubSettings) (who : ℕ) (J : List Event) (waiting : Deadlines) : Type 0
  where
    pub deadlines : waiting.deadlines ≡ own_deadlines s who J
    pub pairs : (d k : ℕ) → has waiting.pairs d k ≡ waits s who J d k

-- The history is sound, and what a slot keeps in addition agrees with it.
abbrev pub IsRightSlot : HubSettings → ℕ → List Event → List (List ℕ) → Deadlines → Type 0
IsRightSlot s who J ids waiting =
    IsSettings s × IsSound s who J × (ids ≡ own_ids who J) × IsWaiting s who J waiting
