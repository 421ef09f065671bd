use Rattle.inst_journal.proofs.PlacesOfTakenAmounts.{where_it_is_booked}
use Rattle.inst_journal.proofs.laws.a_taken_amount_is_where_it_is_booked.Goals as goal

pub returns : goal.returns
returns c = where_it_is_booked
