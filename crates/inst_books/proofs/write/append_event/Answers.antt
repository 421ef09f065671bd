use Rattle.std.proofs.Common.{rules}
use Rattle.inst_books.proofs.write.append_event.Goals as goal

pub returns-in-Defunded-clause-text : goal.returns-in-Defunded-clause-text
returns-in-Defunded-clause-text c = search rules
