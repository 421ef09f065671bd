-- The reader and the writer of a run. A choice of this hub.
use Rattle.std.specs.Prelude.{◌≡◌, ℕ, List, Option}
use Rattle.std.specs.declared.io.Read.{Ghosts as ReadGhosts}
use Rattle.std.specs.declared.io.Write.{Ghosts as WriteGhosts}

-- What was left of the input and what the writer held, before and after; `None` if unknown.
-- `unread` and `unwritten`: reader and writer are unchanged.
pub record Streams : Type 1 where
  pub left : Option (List ℕ)
  pub left' : Option (List ℕ)
  pub held : Option (List ℕ)
  pub held' : Option (List ℕ)
  pub unread : Type 0
  pub unwritten : Type 0

-- The streams of this reader and this writer, before and after.
abbrev pub streams : {R W : Type 0} → ReadGhosts R → WriteGhosts W → R → R → W → W → Streams
streams reads writes reader reader' writer writer' = record {
  left = reads.remaining reader;
  left' = reads.remaining reader';
  held = writes.contents writer;
  held' = writes.contents writer';
  unread = (reader' ≡ reader);
  unwritten = (writer' ≡ writer);
}
