use Rattle.std.proofs.Common.{◌≡◌, ◌-◌, ◌<◌, ◌≤◌, ◌++◌, length, drop, decimal}
use Rattle.inst_json.proofs.scanning.parts.digits.Given as goal

abbrev pub invariant-loop-at : goal.invariant-loop-at
invariant-loop-at l = record {
  from : l.fn.from < l.at;
  within : l.at ≤ length l.text;
  some : 0 < l.value;
  small : l.value < 10000000000000000000;
  read : drop l.fn.from l.text ≡ decimal l.value ++ drop l.at l.text;
}

abbrev pub decreases-loop-at : goal.decreases-loop-at
decreases-loop-at l = length l.text - l.at
