use Rattle.std.proofs.lemmas.List.{get_or-replicate}
use Rattle.inst_books.proofs.tally.LiveCounts.new.Goals as goal

pub returns-clause-live : goal.returns-clause-live
returns-clause-live c = λ from below. get_or-replicate 256 from 0 0 below

pub returns-clause-waiting : goal.returns-clause-waiting
returns-clause-waiting c = λ from below. get_or-replicate 256 from 0 0 below
