use Rattle.std.proofs.Common.{◌≡◌, ℕ, length, Some}
use Rattle.std.specs.Prelude.{slice_get}
use Rattle.std.specs.Global.{Vec}
use Rattle.inst_world.specs.inner.Closing.{HasBeneficiaries}
use Rattle.inst_world.proofs.world.World.all_beneficiaries.Given as goal

abbrev pub invariant-loop-from : goal.invariant-loop-from
invariant-loop-from l = record {
  same : l.self ≡ l.fn.self;
  one_each : length l.lists.items ≡ l.from;
  each : (from : ℕ) (list : Vec ℕ) → slice_get l.lists.items from ≡ Some list → HasBeneficiaries l.self from list.items;
}
