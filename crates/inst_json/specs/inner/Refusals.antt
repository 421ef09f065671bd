-- The result of a reader that may fail to allocate.
use Rattle.std.specs.Prelude.{◌≡◌, ◌⊎◌, Result, Ok, Err}
use Rattle.inst_base.specs.declared.fault.Fault.{Fault}
use Rattle.inst_base.specs.declared.fault.Fault.TheVariants.{Memory}

-- The result, seen through view, is the wanted one, or its fault is Memory.
abbrev pub GivesUnlessMemory : {X Y : Type 0} → (X → Y) → Result X Fault → Result Y Fault → Type 0
GivesUnlessMemory view (Ok x) wanted = Ok (view x) ≡ wanted
GivesUnlessMemory view (Err fault) wanted = (fault ≡ Memory) ⊎ (Err fault ≡ wanted)
