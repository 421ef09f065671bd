use Rattle.std.proofs.Common.{◌≡◌, ◌<◌, ℕ, Some, slice_get}
use Rattle.inst_options.specs.AnyFault.{IsNamed}
use Rattle.inst_options.specs.declared.any_fault.AnyFault.{AnyFault}
use Rattle.inst_options.proofs.any_fault.fault_of.Given as goal

abbrev pub invariant-loop-fault : goal.invariant-loop-fault
invariant-loop-fault l = (i : ℕ) (fault : AnyFault) → i < l.fault-index → slice_get l.fault-items i ≡ Some fault → ¬ (IsNamed l.word fault)
