use Rattle.inst_journal.proofs.PlacesOfTakenAmounts.{all_in_one_place}
use Rattle.inst_journal.proofs.laws.each_taken_amount_is_in_one_place.Goals as goal

pub returns : goal.returns
returns c = all_in_one_place
