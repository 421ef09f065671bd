use Rattle.inst_books.proofs.OldSubmissions.{not_taken_again}
use Rattle.inst_books.proofs.laws.no_old_submission_is_taken.Goals as goal

pub returns : goal.returns
returns c = not_taken_again
