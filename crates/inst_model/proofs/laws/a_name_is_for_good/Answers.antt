use Rattle.inst_model.proofs.NamesOfTransfers.{places_name, identifiers_name}
use Rattle.inst_model.proofs.laws.a_name_is_for_good.Goals as goal

pub returns : goal.returns
returns c = record { places = places_name; identifiers = identifiers_name }
