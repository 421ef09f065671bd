use Rattle.std.proofs.Common.{◌≡◌, ◌++◌, true, false, nat_lt, codes, drop, map, take}
use Rattle.std.specs.List.{list_all}
use Rattle.serde_json.specs.Written.{items_text}
use Rattle.inst_json.specs.Laws.{entry_has_words}
use Rattle.inst_settings.specs.Settings.{is_participant}
use Rattle.inst_json.specs.Replies.{items, entry_data}
use Rattle.inst_json.proofs.lists.append_inbox.Given as goal

abbrev pub invariant-loop-index : goal.invariant-loop-index
invariant-loop-index l = record {
  known : list_all (λ entry. is_participant l.settings entry.from) (drop l.index l.entries) ≡ true;
  words : list_all (entry_has_words l.settings) (take l.index l.entries) ≡ true;
  rest : l.out.items ++ items_text (nat_lt 0 l.index) (items (map (entry_data l.settings) (drop l.index l.entries)))
      ≡ l.fn.out.items ++ (codes "{\"entries\":[" ++ items_text false (items (map (entry_data l.settings) l.entries)));
}
