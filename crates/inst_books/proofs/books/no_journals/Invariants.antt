use Rattle.std.proofs.Common.{◌≡◌, [], replicate}
use Rattle.inst_books.specs.Books.{all_events}
use Rattle.inst_books.proofs.books.no_journals.Given as goal

abbrev pub invariant-loop : goal.invariant-loop
invariant-loop l = all_events l.journals.items ≡ replicate l.counter []
