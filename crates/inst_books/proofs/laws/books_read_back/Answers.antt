use Rattle.inst_books.proofs.WrittenBooksReadBack.{books_read_back}
use Rattle.inst_books.proofs.laws.books_read_back.Goals as goal

pub returns : goal.returns
returns c = books_read_back
