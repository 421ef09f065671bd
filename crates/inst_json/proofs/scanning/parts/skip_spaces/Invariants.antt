use Rattle.std.proofs.Common.{◌≡◌, ◌≤◌, ◌-◌, length, drop}
use Rattle.std.specs.Str.{IsAscii}
use Rattle.json.specs.Lex.{lex, between}
use Rattle.inst_json.proofs.scanning.parts.skip_spaces.Given as goal

abbrev pub invariant-loop-at : goal.invariant-loop-at
invariant-loop-at l = record {
  from : l.fn.from ≤ l.at;
  within : l.at ≤ length l.text;
  same : lex between (drop l.at l.text) ≡ lex between (drop l.fn.from l.text);
  ascii : IsAscii (drop l.at l.text) → IsAscii (drop l.fn.from l.text);
}

abbrev pub decreases-loop-at : goal.decreases-loop-at
decreases-loop-at l = length l.text - l.at
