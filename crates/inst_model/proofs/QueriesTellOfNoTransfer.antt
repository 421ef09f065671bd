-- A query is answered nothing of a transfer.
use Rattle.std.proofs.Common.{◌≡◌, List, refl}
use Rattle.inst_command.specs.declared.query.Query.{Query}
use Rattle.inst_command.specs.declared.query.Query.TheVariants.{Position, Statement}
use Rattle.inst_journal.specs.declared.event.Event.{Event}
use Rattle.inst_journal.specs.Reply.{answer_query}
use Rattle.inst_model.specs.TransferTold.{transfer_told, tells_nothing}

pub query_tells_nothing : (J : List Event) (query : Query) → transfer_told (answer_query J query) ≡ tells_nothing
query_tells_nothing J Position = refl
query_tells_nothing J (Statement skip count) = refl
