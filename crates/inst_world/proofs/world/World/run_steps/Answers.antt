use Rattle.std.proofs.Common.{◌∙◌, arith}
use Rattle.inst_world.proofs.StepsRunInOrder.{runs_on}
use Rattle.inst_world.proofs.world.World.run_steps.Goals as goal

pub loop-step-preserved : goal.loop-step-preserved
loop-step-preserved c =
    let before = c.loop-step.invariant in
    record {
      settings = c.step.ensures.settings ∙ before.settings;
      ran = runs_on c.args.self.now.board.settings c.args.self.now c.loop-step.self c.step.new.self c.args.steps.now c.loop-step.step-index c.step-item.result c.loop-step.answers.items c.push.new.self.items c.in_ok-step.field-0
          (omega arith) c.step-item.is before.settings c.in_ok-step.ensures.ok c.in_ok-push.ensures.items before.ran;
    }
