use Rattle.std.proofs.Common.{refl}
use Rattle.inst_model.proofs.EntriesAndRepliesOfSteps.{at_most_one_entry_is_seen, replies_are_in_the_trace}
use Rattle.inst_model.proofs.laws.the_hub_goes_step_by_step.Goals as goal

pub returns : goal.returns
returns c = record {
  outcome = λ s O step past p id. refl;
  view = λ s O step past p. refl;
  entry = at_most_one_entry_is_seen;
  replies = replies_are_in_the_trace;
}
