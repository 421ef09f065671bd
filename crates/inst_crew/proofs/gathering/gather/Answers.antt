use Rattle.std.proofs.Common.{ap, ◌∙◌, ◌∷◌, [], ◌++◌, List}
use Rattle.inst_command.specs.declared.outcome.State.{State}
use Rattle.inst_command.specs.declared.place.Place.{Place}
use Rattle.inst_crew.proofs.GatheredShifts.{ends_more, gathered_more}
use Rattle.inst_crew.proofs.gathering.gather.Goals as goal

pub loop-result-preserved : goal.loop-result-preserved
loop-result-preserved c =
    let i = c.loop-result.invariant in let is = c.in-Some.ensures.steps.0 in (
      tt,
      tt,
      (
        i.2.0 ++ c.in_ok-hand.field-0 ∷ [],
        ends_more _ _ _ _ _ _ i.2.1 is c.in_ok-hand.was,
        gathered_more _ _ _ _ i.2.2 c.saturating_add.ensures
            (c.in_ok-extend_from_slice.ensures.items ∙ ap (λ (l : List (Place × State)). c.loop-result.crew.states.items ++ l) c.as_slice.ensures.value) c.in_ok-push.ensures.items c.in_ok-push-2.ensures.items,
      ),
    )
