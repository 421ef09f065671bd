use Rattle.inst_books.proofs.WrittenBooksReadBack.{text_tells}
use Rattle.inst_books.proofs.laws.a_text_tells_its_books.Goals as goal

pub returns : goal.returns
returns c = text_tells
