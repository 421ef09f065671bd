use Rattle.inst_model.proofs.BooksAfterClosing.{closing_closes, closing_decides_nothing, closing_only_tells, closing_again_adds_nothing, closing_leaves_nothing_to_tell, nothing_left_is_closed}
use Rattle.inst_model.proofs.NothingUntoldAfterClosing.{closing_settles_up}
use Rattle.inst_model.proofs.ClosingExists.{there_is_a_closing}
use Rattle.inst_model.proofs.laws.a_closing_closes_the_books.Goals as goal

pub returns : goal.returns
returns c = record {
  there_is_one = there_is_a_closing;
  closes = closing_closes;
  decides_nothing = closing_decides_nothing;
  only_tells = closing_only_tells;
  settles_up = closing_settles_up;
  again = closing_again_adds_nothing;
  nothing_left = closing_leaves_nothing_to_tell;
  enough = nothing_left_is_closed;
}
