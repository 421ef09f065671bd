-- Counts over a participant's history that its ledger doesn't have: for each originator the
-- forwarded transfers that are live and those without a booked outcome, and the openings. A choice
-- of this hub.
use Rattle.std.specs.Prelude.{◌≡◌, ◌≢◌, ℕ, ◌<◌, List, count_by, slice_index}
use Rattle.inst_settings.specs.declared.ranges.TheConstants.{MOST_PARTICIPANTS}
use Rattle.inst_journal.specs.declared.event.Event.{Event}
use Rattle.inst_journal.specs.Opened.{openings, forwards_live, live_forwarded}
use Rattle.inst_books.specs.declared.tally.LiveCounts.{LiveCounts}

-- The number of transfers forwarded from this originator without a booked outcome.
abbrev pub waiting_from : ℕ → List Event → ℕ
waiting_from from J = count_by (forwards_live from J) J

-- The counts agree with the history. A participant's own transfers are never forwarded to it.
pub record IsTally (who : ℕ) (J : List Event) (t : LiveCounts) : Type 0 where
  pub live : (from : ℕ) → from < MOST_PARTICIPANTS → from ≢ who →
      slice_index t.live from ≡ live_forwarded from J
  pub waiting : (from : ℕ) → from < MOST_PARTICIPANTS → from ≢ who →
      slice_index t.waiting from ≡ waiting_from from J
  pub opened : t.openings ≡ openings J
