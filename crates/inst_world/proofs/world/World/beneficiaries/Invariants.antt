use Rattle.std.proofs.Common.{◌≡◌, ℕ, ◌<◌, ◌≤◌, List, length}
use Rattle.std.specs.Prelude.{slice_get, option_map}
use Rattle.inst_command.specs.declared.step.Step.{Step}
use Rattle.inst_model.specs.Hub.{history}
use Rattle.inst_model.specs.Opening.{Opening}
use Rattle.inst_model.specs.Transfer.{Transfer, at_place}
use Rattle.inst_world.specs.HasRun.{HasRun}
use Rattle.inst_world.proofs.world.World.beneficiaries.Given as goal

abbrev pub invariant-loop-index : goal.invariant-loop-index
invariant-loop-index l = record {
  same : l.self ≡ l.fn.self;
  count : length l.list.items ≡ l.index;
  by_place : (O : Opening) (L : List Step) → HasRun O L l.self → (index : ℕ) → index < length l.list.items →
      slice_get l.list.items index ≡ option_map (λ (x : Transfer). x.to) (at_place l.from (history l.self.board.settings O L l.from) index);
}
