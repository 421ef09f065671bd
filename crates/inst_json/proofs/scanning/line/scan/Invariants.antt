use Rattle.std.proofs.Common.{◌≡◌, ◌-◌, ◌≤◌, length, get_or, drop}
use Rattle.std.specs.Str.{IsAscii}
use Rattle.json.specs.Lex.{lex, between, tokens}
use Rattle.inst_json.proofs.OrderedMembers.{Reading}
use Rattle.inst_json.specs.LineFields.{fields_in_order}
use Rattle.inst_json.proofs.scanning.line.scan.Given as goal

abbrev pub invariant-loop-at : goal.invariant-loop-at
invariant-loop-at l = record {
  within : l.at ≤ length l.text;
  ascii : IsAscii (drop l.at l.text) → IsAscii l.text;
  reading : Reading (get_or l.text (l.at - 1) 0 ≡ 44) (tokens l.text) (lex between (drop l.at l.text)) (fields_in_order l.found);
}

abbrev pub decreases-loop-at : goal.decreases-loop-at
decreases-loop-at l = length l.text - l.at
