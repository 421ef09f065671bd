-- How many of some bytes a writer was given. A choice of this hub.
use Rattle.std.specs.Prelude.{◌≡◌, ℕ, List, ◌++◌, Option}
use Rattle.std.specs.Io.KnownBytes.{Appends}

-- A prefix of the bytes was written.
pub record WritesPart (before after : Option (List ℕ)) (bytes : List ℕ) : Type 0 where
  pub part : List ℕ
  pub rest : List ℕ
  pub whole : bytes ≡ part ++ rest
  pub appends : Appends before after part

-- A prefix of `old` was written, and `new` is the rest.
pub record WritesFirst (before after : Option (List ℕ)) (old new : List ℕ) : Type 0 where
  pub part : List ℕ
  pub whole : old ≡ part ++ new
  pub appends : Appends before after part
