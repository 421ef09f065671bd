-- The faults of a hub, a log and a drill, and the words that name them. A choice of this hub.
use Rattle.std.specs.Prelude.{◌≡◌, ◌⊎◌, ℕ, List, codes}
use Rattle.std.specs.Str.Parse.{IsNumeral, digits_value, without_leading_plus}
use Rattle.inst_base.specs.Fault as hub
use Rattle.inst_options.specs.LogFault as log
use Rattle.inst_options.specs.declared.any_fault.AnyFault.{AnyFault}
use Rattle.inst_options.specs.declared.any_fault.AnyFault.TheVariants.{Hub, Log, NoInterleaving}
use Rattle.inst_options.specs.declared.any_fault.AnyFault.TheVariants.{PendingTransfer, BrokenChain}

-- The number of a fault.
abbrev pub any_fault_number : AnyFault → ℕ
any_fault_number (Hub fault) = hub.number_of fault
any_fault_number (Log fault) = log.log_fault_number fault
any_fault_number NoInterleaving = 29
any_fault_number PendingTransfer = 30
any_fault_number BrokenChain = 31

-- The name of a fault.
abbrev pub any_fault_name : AnyFault → List ℕ
any_fault_name (Hub fault) = hub.name_of fault
any_fault_name (Log fault) = log.log_fault_name fault
any_fault_name NoInterleaving = codes "NoInterleaving"
any_fault_name PendingTransfer = codes "PendingTransfer"
any_fault_name BrokenChain = codes "BrokenChain"

-- The word is the fault's name, or its number in digits, which may follow a plus sign.
abbrev pub IsNamed : List ℕ → AnyFault → Type 0
IsNamed word fault =
    (word ≡ any_fault_name fault)
    ⊎ (IsNumeral 10 (without_leading_plus word)
    × (any_fault_number fault ≡ digits_value 10 (without_leading_plus word)))
