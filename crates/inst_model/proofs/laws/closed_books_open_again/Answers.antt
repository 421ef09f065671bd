use Rattle.inst_model.proofs.OutcomesOverOpenings.{closed_books_can_open, the_next_begins_with_the_outcomes, an_outcome_stays_over_the_next, a_hub_opens_again, an_outcome_stays_for_good}
use Rattle.inst_model.proofs.laws.closed_books_open_again.Goals as goal

pub returns : goal.returns
returns c = record {
  opens = closed_books_can_open;
  begins = the_next_begins_with_the_outcomes;
  stays = an_outcome_stays_over_the_next;
  again = a_hub_opens_again;
  for_good = an_outcome_stays_for_good;
}
