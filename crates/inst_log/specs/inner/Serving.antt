-- Batches that are answered one by one, and replies that are written in part.
use Rattle.std.specs.Prelude.{◌≡◌, ℕ, List, ◌++◌, Option, Vec}
use Rattle.std.specs.Io.KnownBytes.{Appends}
use Rattle.std.specs.declared.alloc.Global.{Global}
use Rattle.inst_log.specs.Serving.{Replies, Tells, SaysOn, batch_lines, AllBatches}

-- A prefix of the replies to these lines was written.
pub record TellsFront (says : Replies →
    Type 0) (lines : List (List ℕ)) (before now : Option (List ℕ)) : Type 0 where
  pub told : List ℕ
  pub handed : Appends before now told
  pub front : (replies : Replies) → says replies → (rest : List ℕ) × (replies lines ≡ told ++ rest)

-- All batches but those that are left were answered.
pub record Served (keeps : List (List ℕ) → Type 0) (old now : Replies →
    Type 0) (before after : Option (List ℕ))
    (batches left : List (Vec ℕ Global)) : Type 0 where
  pub done : List (List ℕ)
  pub split : done ++ batch_lines left ≡ batch_lines batches
  pub all : AllBatches left
  pub tells : Tells old done before after
  pub on : SaysOn old done now
  pub kept : keeps done
