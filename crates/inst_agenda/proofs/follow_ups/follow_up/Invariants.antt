use Rattle.std.proofs.Common.{◌≡◌, List, length}
use Rattle.inst_command.specs.declared.step.Step.{Step}
use Rattle.inst_model.specs.Opening.{Opening}
use Rattle.inst_agenda.specs.Watching.{Watches}
use Rattle.inst_agenda.proofs.SkippedPlacesAreAtRest.{IsGoing}
use Rattle.inst_agenda.proofs.follow_ups.follow_up.Given as goal

abbrev pub invariant-loop-place : goal.invariant-loop-place
invariant-loop-place l = record {
  settings : l.runner.world.board.settings ≡ l.fn.runner.world.board.settings;
  going : (O : Opening) (L : List Step) → Watches O L l.fn.runner.world l.fn.runner.agenda → IsGoing l.fn.runner.world.board.settings O L l.at l.runner.world l.runner.agenda;
}

abbrev pub decreases-loop-place : goal.decreases-loop-place
decreases-loop-place l = length l.runner.agenda.next
