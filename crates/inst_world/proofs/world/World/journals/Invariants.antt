use Rattle.std.proofs.Common.{◌≡◌, ℕ, ◌<◌, List, length}
use Rattle.inst_command.specs.declared.step.Step.{Step}
use Rattle.inst_model.specs.Hub.{history}
use Rattle.inst_model.specs.Opening.{Opening}
use Rattle.inst_world.specs.HasRun.{HasRun, journal_of}
use Rattle.inst_world.specs.NextOpening.{books_of}
use Rattle.inst_world.proofs.world.World.journals.Given as goal

abbrev pub invariant-loop-who : goal.invariant-loop-who
invariant-loop-who l = record {
  one_each : length l.journals.items ≡ l.who;
  same : (p : ℕ) → p < l.who → books_of l.journals.items p ≡ journal_of l.self p;
  histories : (p : ℕ) → p < l.who → (O : Opening) (L : List Step) → HasRun O L l.self → journal_of l.self p ≡ history l.self.board.settings O L p;
}
