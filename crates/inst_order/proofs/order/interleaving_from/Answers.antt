use Rattle.std.proofs.Common.{List, sym, subst, IfSome}
use Rattle.inst_command.specs.declared.step.Step.{Step}
use Rattle.inst_world.specs.HasRun.{journal_of}
use Rattle.inst_world.specs.Headline.{run_of, KeepsTheHeadline}
use Rattle.inst_world.specs.NextOpening.{opening_from}
use Rattle.inst_order.specs.Order.{ExplainsJournals}
use Rattle.inst_order.proofs.StepsExplainJournals.{if_given, explained}
use Rattle.inst_order.proofs.order.interleaving_from.Goals as goal

pub returns : goal.returns
returns c =
    let world = c.in_ok-world.world in
    let answers = c.in_ok-world.field-0-1.answers in
    record {
      headline =
          subst (λ found. IfSome found (λ steps. ExplainsJournals c.args.settings.now (opening_from c.args.opening.now) steps.items c.args.journals.now)) (sym c.then_some.ensures)
          (if_given _ c.has_journals.result c.in-Some.steps
          (λ has. explained c.args.settings.now (opening_from c.args.opening.now) c.in-Some.steps.items world answers c.args.journals.now c.in_ok-world.ensures.ran.0
          (subst (λ (steps : List Step). KeepsTheHeadline c.args.settings.now (run_of (opening_from c.args.opening.now) steps (journal_of world) answers)) c.deref.ensures.value c.in_ok-world.ensures.headline)
          (c.has_journals.ensures.0 has)));
    }
