use Rattle.std.proofs.Common.{◌≡◌, ◌++◌, true, false, nat_lt, codes, drop, map}
use Rattle.std.specs.List.{list_all}
use Rattle.serde_json.specs.Written.{items_text}
use Rattle.serde_json.specs.Data.{string}
use Rattle.inst_command.specs.LineText.{line_fits, line_text}
use Rattle.inst_json.specs.Replies.{items}
use Rattle.inst_json.proofs.lists.append_statement.Given as goal

abbrev pub invariant-loop-index : goal.invariant-loop-index
invariant-loop-index l = record {
  fit : list_all (line_fits l.settings) (drop l.index l.lines) ≡ true;
  rest : l.out.items ++ items_text (nat_lt 0 l.index) (items (map (λ line. string (line_text l.settings line)) (drop l.index l.lines)))
      ≡ l.fn.out.items ++ (codes "{\"lines\":[" ++ items_text false (items (map (λ line. string (line_text l.settings line)) l.lines)));
}
