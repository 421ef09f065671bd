use Rattle.std.proofs.Common.{◌≡◌, true, List, ℕ, drop, map}
use Rattle.std.specs.List.{list_all}
use Rattle.serde_json.specs.Data.{string}
use Rattle.serde_json.specs.View.{items_view}
use Rattle.inst_base.specs.Text.{is_code}
use Rattle.inst_json.specs.Replies.{items}
use Rattle.inst_logged.proofs.FirstLine.{CodesLeft}
use Rattle.inst_logged.proofs.log_header.codes_in.Given as goal

abbrev pub invariant-loop-value : goal.invariant-loop-value
invariant-loop-value l =
    (named : List (List ℕ)) → list_all is_code named ≡ true → items_view l.listed ≡ items (map string named) → CodesLeft named l.codes.items (drop l.value-index l.listed)
