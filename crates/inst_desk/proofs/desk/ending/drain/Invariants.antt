use Rattle.std.proofs.Common.{◌≡◌, ◌+◌, ◌≤◌, ◌++◌, length, vec_capacity}
use Rattle.crossbeam_queue.specs.Passes.{view, IsPassOf, ruled_capacity}
use Rattle.inst_desk.specs.Account.{account}
use Rattle.inst_desk.proofs.desk.ending.drain.Given as goal

abbrev pub invariant-loop : goal.invariant-loop
invariant-loop g l =
    IsPassOf l.queue l.seat ×
    (view l.seat ≡ account 16 (view l.fn.seat).put ((view l.fn.seat).taken ++ l.left.items)) ×
    (vec_capacity l.left ≡ ruled_capacity l.queue) ×
    (length (view l.fn.seat).put ≤ length (view l.fn.seat).taken + ruled_capacity l.queue)
