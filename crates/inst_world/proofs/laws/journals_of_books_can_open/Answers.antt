use Rattle.inst_world.proofs.JournalsOpenWhereBooksCan.{can_open_from}
use Rattle.inst_world.proofs.laws.journals_of_books_can_open.Goals as goal

pub returns : goal.returns
returns c = λ s J journals can are. can_open_from s J journals can are
