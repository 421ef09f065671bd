use Rattle.inst_journal.proofs.PagesOfInboxAndStatement.{in_order_of_arrival, next_page}
use Rattle.std.proofs.Common.{refl}
use Rattle.inst_journal.proofs.laws.an_inbox_is_read_in_order.Goals as goal

pub returns-clause-arrivals : goal.returns-clause-arrivals
returns-clause-arrivals c = (refl, in_order_of_arrival)

pub returns-clause-pages : goal.returns-clause-pages
returns-clause-pages c = next_page
