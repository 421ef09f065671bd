use Rattle.std.proofs.Common.{◌≡◌, ◌≤◌, ◌<◌, ℕ}
use Rattle.std.specs.Global.{Box}
use Rattle.std.specs.Prelude.{vec_capacity}
use Rattle.inst_row.specs.Ended.{Lies, IsOut, locks_of}
use Rattle.inst_row.specs.Row.{key_of, size}
use Rattle.inst_participant.specs.declared.participant.Participant.{Participant}
use Rattle.inst_hub.specs.inner.Closing.{AreTakenOut}
use Rattle.inst_hub.proofs.hub.closing.empty.Given as goal

abbrev pub invariant-loop-lock : goal.invariant-loop-lock
invariant-loop-lock l = record {
  locks : locks_of l.ended ≡ size l.fn.row;
  left : (k : ℕ) (x : Box Participant) → l.lock ≤ k → Lies k x l.initial.ended → Lies k x l.ended;
  out : (k : ℕ) → k < l.lock → IsOut k l.ended;
  room : (size l.fn.row ≤ vec_capacity l.slots) × (size l.fn.row ≤ vec_capacity l.boards);
  taken : AreTakenOut (key_of l.fn.row) l.lock l.fn.seat l.slots.items l.boards.items;
}
