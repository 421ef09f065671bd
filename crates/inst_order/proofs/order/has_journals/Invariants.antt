use Rattle.std.proofs.Common.{◌≡◌, ℕ, ◌<◌}
use Rattle.inst_world.specs.HasRun.{journal_of}
use Rattle.inst_world.specs.NextOpening.{books_of}
use Rattle.inst_order.proofs.order.has_journals.Given as goal

abbrev pub invariant-loop-who : goal.invariant-loop-who
invariant-loop-who l = (p : ℕ) → p < l.who → books_of l.journals p ≡ journal_of l.world p
