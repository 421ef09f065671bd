use Rattle.std.proofs.Common.{arith}
use Rattle.std.proofs.lemmas.Grind.{common_steps}
use Rattle.inst_books.specs.Events.{event_line}
use Rattle.inst_books.proofs.books.append_book.Goals as goal

pub append_event-requires-clause-writable : goal.append_event-requires-clause-writable
unfolding event_line
append_event-requires-clause-writable c = grind (arith, common_steps)

pub loop-event-preserved : goal.loop-event-preserved
unfolding event_line
loop-event-preserved c = grind (arith, common_steps)

pub returns-clause-text : goal.returns-clause-text
unfolding event_line
returns-clause-text c = grind (arith, common_steps)

pub returns-clause-form : goal.returns-clause-form
unfolding event_line
returns-clause-form c = grind (arith, common_steps)
