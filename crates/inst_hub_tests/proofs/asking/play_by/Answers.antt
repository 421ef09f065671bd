use Rattle.std.proofs.Common.{arith, inl, inr, sym, subst}
use Rattle.inst_base.proofs.Lists.{set_cases}
use Rattle.inst_hub.specs.declared.teller.Teller.{Teller}
use Rattle.inst_hub.specs.Calls.{IsTellerOf}
use Rattle.inst_hub_tests.proofs.asking.play_by.Goals as goal

pub returns-clause-of : goal.returns-clause-of
returns-clause-of g c = λ i t at. elim (set_cases c.args.tellers.now.items c.args.index i c.play.new.teller t (omega (arith, c.if-index-len.false, c.len.ensures)) at) [
  | inl here ↦ subst (λ (u : Teller). IsTellerOf c.args.hub.now u) (sym here.1) c.play.ensures.of
  | inr other ↦ c.requires.of i t other.1
]
