use Rattle.std.proofs.Common.{◌≡◌, ◌+◌, length}
use Rattle.crossbeam_queue.specs.Passes.{view, IsPassOf}
use Rattle.inst_desk.proofs.Hands.{Dealt}
use Rattle.inst_desk.proofs.desk.Desk.hands.Given as goal

abbrev pub invariant-loop-number : goal.invariant-loop-number
invariant-loop-number l =
    IsPassOf l.self.queue l.seat ×
    Dealt l.self (view l.seat) l.all.items ×
    (length l.all.items + 1 ≡ l._number)
