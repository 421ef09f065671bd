use Rattle.inst_model.proofs.ClosedBooksSumToNet.{closed_books_sum_to_the_net}
use Rattle.inst_model.proofs.laws.closed_books_sum_to_the_net.Goals as goal

pub returns : goal.returns
returns c = closed_books_sum_to_the_net
