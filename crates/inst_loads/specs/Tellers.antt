-- The tellers that a hub needs to be closed: they are its own and have all parts of its row.
use Rattle.std.specs.Prelude.{List}
use Rattle.inst_hub.specs.declared.hub.Hub.{Hub}
use Rattle.inst_hub.specs.declared.teller.Teller.{Teller}
use Rattle.inst_hub.specs.Calls.{AreOf}
use Rattle.inst_hub.specs.Opening.{HaveAllParts}

abbrev pub AreAllOf : Hub → List Teller → Type 0
AreAllOf h tellers = AreOf h tellers × HaveAllParts tellers
