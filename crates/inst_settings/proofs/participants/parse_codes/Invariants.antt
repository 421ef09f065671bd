use Rattle.std.proofs.Common.{◌≡◌, true, map, take}
use Rattle.std.specs.List.{list_all}
use Rattle.inst_base.specs.Text.{is_code}
use Rattle.inst_settings.proofs.participants.parse_codes.Given as goal

abbrev pub invariant-loop-part : goal.invariant-loop-part
invariant-loop-part l = record {
  items : l.codes.items ≡ map (λ part. part.now) (take l.part-index l.part-items);
  formed : list_all is_code l.codes.items ≡ true;
}
