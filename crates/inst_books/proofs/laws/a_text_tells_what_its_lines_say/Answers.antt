use Rattle.inst_books.proofs.ReadBooksMatchLines.{tells}
use Rattle.inst_books.proofs.laws.a_text_tells_what_its_lines_say.Goals as goal

pub returns : goal.returns
returns c = tells
