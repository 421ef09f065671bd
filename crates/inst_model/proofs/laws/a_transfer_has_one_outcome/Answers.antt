use Rattle.inst_model.proofs.Outcomes.{answered_is_the_outcome, booked_is_the_outcome, outcome_stays}
use Rattle.inst_model.proofs.laws.a_transfer_has_one_outcome.Goals as goal

pub returns : goal.returns
returns c = record { answered = answered_is_the_outcome; booked = booked_is_the_outcome; stays = outcome_stays }
