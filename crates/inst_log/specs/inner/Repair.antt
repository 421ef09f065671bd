-- The repair of a file's end.
use Rattle.std.specs.Prelude.{◌≡◌, ℕ, Bool, List, Result, OnOk, IsTrue}
use Rattle.sqlite_disk.specs.Disk.{Only}
use Rattle.inst_log.specs.Layout.{recovered_lines, HasClosedByte}

-- The repair: at `Ok` the file's lines end with a synced closed byte at `end`; at any moment a
-- crash leaves the same lines.
pub record Repairs {D T E : Type 0} (seen : D → List ℕ) (may_leave : D → List ℕ →
    Type 0) (is_clean is_usable : D → Bool)
    (old : D) (end : ℕ) (result : Result T E) (new : D) : Type 0 where
  pub closed : OnOk result (IsTrue (is_clean new) →
      HasClosedByte (seen new) end × (recovered_lines (seen new) ≡ recovered_lines (seen old)))
  pub durable : OnOk result (IsTrue (is_clean new) → Only (seen new) (may_leave new))
  pub any_moment : IsTrue (is_clean new) → (c : List ℕ) → may_leave new c →
      recovered_lines c ≡ recovered_lines (seen old)
  pub usable : OnOk result (IsTrue (is_usable new))
  pub clean : IsTrue (is_clean new) → IsTrue (is_clean old)
