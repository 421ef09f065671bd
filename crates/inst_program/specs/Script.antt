-- The script of a drill: lines for `play`, with which a hub in one thread leaves the same books. A
-- choice of this hub.
use Rattle.std.specs.Prelude.{◌≡◌, ◌≢◌, ◌⊎◌, ℕ, List, [], ◌∷◌, ◌++◌, Option, Some, None}
use Rattle.std.specs.List.{flat_map}
use Rattle.sqlite_disk.specs.Disk.{Only}
use Rattle.inst_settings.specs.Settings.{HubSettings}
use Rattle.inst_command.specs.declared.step.Step.{Step}
use Rattle.inst_json.specs.StepLines.{step_line}
use Rattle.inst_program.specs.Files.{Change, Files, IfKept, IsAsItWas, OthersStay, Stay, change_of}

-- The line of each step, with its newline.
abbrev pub script_of : HubSettings → List Step → List ℕ
script_of s steps = flat_map (λ step. step_line s step ++ 10 ∷ []) steps

-- The file was empty and has this text, also after a crash.
pub record IsWritten (text : List ℕ) (c : Change) : Type 0 where
  pub was_empty : c.was ≡ []
  pub text_is : c.now ≡ text
  pub durable : Only c.now c.may_leave

-- The script of these steps was written to the named file, if any, and no other file changed.
abbrev pub HasScript : HubSettings → List Step → Option (List ℕ) → Files → Files → Type 0
HasScript s steps None old new = Stay old new
HasScript s steps (Some name) old new =
    IfKept new (IsWritten (script_of s steps) (change_of old new name)) × OthersStay old new name

-- A file for the script that wasn't empty is unchanged, and so are all other files.
abbrev pub SparesTheScript : Option (List ℕ) → Files → Files → Type 0
SparesTheScript None old new = Stay old new
SparesTheScript (Some name) old new =
    IfKept new (old.bytes name ≢ [] → IsAsItWas (change_of old new name)) × OthersStay old new name

-- Another program may have the file for the script open, or it isn't empty.
abbrev pub CannotTakeTheScript : List ℕ → Files → Files → Type 0
CannotTakeTheScript name old new = new.in_use name ⊎ IfKept new (old.bytes name ≢ [])
