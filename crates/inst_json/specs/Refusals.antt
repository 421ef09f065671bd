-- Sequences of checks that stop at the first refusal, and the results of readers. A choice of this
-- hub.
use Rattle.std.specs.Prelude.{◌≡◌, ◌⊎◌, Some, None, Result, Ok, Err}
pub use Rattle.inst_base.specs.Fault.{IsUnlessMemory}
use Rattle.inst_base.specs.declared.fault.Fault.{Fault}
use Rattle.inst_base.specs.declared.fault.Fault.TheVariants.{Memory}
use Rattle.inst_json.specs.declared.name.Name.{Name}
use Rattle.inst_json.specs.declared.refusal.Refusal.{Refusal}

-- One step, then the next with its value; stops at the first refusal.
infixl 10 ◌>>=◌
abbrev pub ◌>>=◌ : {A B E : Type 0} → Result A E → (A → Result B E) → Result B E
(Ok x) >>= f = f x
(Err refusal) >>= f = Err refusal

-- The result of reading a field; a refusal names it.
abbrev pub in_field : {A : Type 0} → Name → Result A Fault → Result A Refusal
in_field name (Ok x) = Ok x
in_field name (Err fault) = Err (record { fault = fault; field = Some name })

-- The result of reading the line as a whole; a refusal names no field.
abbrev pub as_whole : {A : Type 0} → Result A Fault → Result A Refusal
as_whole (Ok x) = Ok x
as_whole (Err fault) = Err (record { fault = fault; field = None })

-- The result with the fault of the refusal alone.
abbrev pub by_fault : {A : Type 0} → Result A Refusal → Result A Fault
by_fault (Ok x) = Ok x
by_fault (Err refusal) = Err refusal.fault

-- The result, seen through view, is the wanted one.
abbrev pub GivesValue : {X Y : Type 0} → (X → Y) → Result X Fault → Result Y Fault → Type 0
GivesValue view (Ok x) wanted = Ok (view x) ≡ wanted
GivesValue view (Err fault) wanted = Err fault ≡ wanted

-- The result is the wanted one, or its fault is Memory.
abbrev pub IsReadUnlessMemory : {A : Type 0} → Result A Refusal → Result A Refusal → Type 0
IsReadUnlessMemory (Ok x) wanted = Ok x ≡ wanted
IsReadUnlessMemory (Err refusal) wanted = (refusal.fault ≡ Memory) ⊎ (Err refusal ≡ wanted)
