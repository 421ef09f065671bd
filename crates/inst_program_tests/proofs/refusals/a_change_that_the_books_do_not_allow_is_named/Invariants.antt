use Rattle.std.proofs.Common.{◌≡◌, None}
use Rattle.inst_program_tests.proofs.refusals.a_change_that_the_books_do_not_allow_is_named.Given as goal

abbrev pub invariant-loop-options : goal.invariant-loop-options
invariant-loop-options g l = l.logs.out ≡ None
