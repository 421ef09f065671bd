use Rattle.inst_books.proofs.WrittenBooksReadBack.{plain_lines}
use Rattle.inst_books.proofs.laws.books_are_plain_lines.Goals as goal

pub returns : goal.returns
returns c = plain_lines
