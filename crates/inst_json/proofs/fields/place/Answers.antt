use Rattle.std.proofs.Common.{rules}
use Rattle.inst_json.specs.Fields.{place_in}
use Rattle.inst_json.proofs.fields.place.Goals as goal

pub returns-in-Ok : goal.returns-in-Ok
unfolding place_in
returns-in-Ok c = search rules
