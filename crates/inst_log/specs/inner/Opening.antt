-- The first byte of a new log, and what a crash leaves of it.
use Rattle.std.specs.Prelude.{◌≡◌, ◌≢◌, ◌⊎◌, ◌≤◌, ℕ, max, List, [], ◌∷◌, length, take}
use Rattle.sqlite_disk.specs.Disk.{Torn}

-- The first byte is 0, and the file is no longer than before or than one byte.
abbrev pub IsBlanked : List ℕ → List ℕ → Type 0
IsBlanked old new = (take 1 new ≡ 0 ∷ []) × (length new ≤ max (length old) 1)

-- A file that a crash may leave while that byte is written.
abbrev pub IsBlanking : List ℕ → List ℕ → Type 0
IsBlanking old c = (c ≡ old) ⊎ ((take 1 old ≢ 0 ∷ []) × Torn 0 1 old c)
