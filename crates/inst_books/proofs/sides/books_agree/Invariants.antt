use Rattle.std.proofs.Common.{ℕ, ◌<◌}
use Rattle.std.specs.List.{All}
use Rattle.inst_books.specs.inner.Agreeing.{Agrees, ledger_histories}
use Rattle.inst_books.proofs.sides.books_agree.Given as goal

abbrev pub invariant-loop-who : goal.invariant-loop-who
invariant-loop-who l = (p : ℕ) → p < l.who → All (Agrees l.limit (ledger_histories l.ledgers) p) (ledger_histories l.ledgers p)
