use Rattle.std.proofs.Common.{◌≡◌, Some, slice_get, subst, sym, ◌∙◌, arith}
use Rattle.std.proofs.lemmas.Option.{get_or_from_slice_get}
use Rattle.inst_options.specs.AnyFault.{IsNamed}
use Rattle.inst_options.specs.declared.any_fault.AnyFault.{AnyFault}
use Rattle.inst_options.specs.declared.any_fault.TheConstants.{ALL}
use Rattle.inst_options.proofs.FaultNames.{none_of_all, one_more, true_is_not_false}
use Rattle.inst_options.proofs.any_fault.fault_of.Goals as goal

here : (c : goal.Else-is_named) (f : AnyFault) → slice_get ALL.now c.loop-fault.fault-index ≡ Some f → ¬ (IsNamed c.args.word.now f)
here c f at named =
    let yes = c.is_named.ensures.1 (subst (IsNamed c.args.word.now) (sym (get_or_from_slice_get ALL.now c.loop-fault.fault-index f _ at)) named) in
    true_is_not_false (sym yes ∙ c.if-is_named.false)

pub loop-fault-preserved : goal.loop-fault-preserved
loop-fault-preserved c = one_more c.args.word.now ALL.now c.loop-fault.fault-index c.loop-fault.invariant (here c)

pub returns-clause-none : goal.returns-clause-none
returns-clause-none c none fault named = none_of_all c.args.word.now c.loop-fault.fault-index (omega (arith, c.loop-fault-test.false)) c.loop-fault.invariant fault named
