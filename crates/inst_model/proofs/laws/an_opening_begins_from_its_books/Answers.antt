use Rattle.inst_model.proofs.OpeningBeginsFromBooks.{begins_from_its_books}
use Rattle.inst_model.proofs.laws.an_opening_begins_from_its_books.Goals as goal

pub returns : goal.returns
returns c = begins_from_its_books
