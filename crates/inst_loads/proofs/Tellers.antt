-- The tellers of a hub that is to close, one of which has called.
use Rattle.std.proofs.Common.{◌≡◌, ◌<◌, ℕ, List, length, set, get_or, arith, inl, inr, sym, ap, ◌∙◌, subst}
use Rattle.std.specs.Prelude.{sum_by}
use Rattle.std.proofs.lemmas.List.Sums.{sum_by-set}
use Rattle.inst_base.proofs.Lists.{set_cases}
use Rattle.inst_hub.specs.declared.hub.Hub.{Hub}
use Rattle.inst_hub.specs.declared.teller.Teller.{Teller}
use Rattle.inst_hub.specs.Calls.{IsTellerOf, TellerKnowsMore}
use Rattle.inst_hub.specs.Opening.{row_parts}
use Rattle.inst_loads.specs.Tellers.{AreAllOf}

pub same_sum : {X : Type 0} (f : X → ℕ) (xs : List X) (k : ℕ) (t u : X) → k < length xs → t ≡ get_or xs k t → f u ≡ f t → sum_by f (set xs k u) ≡ sum_by f xs
same_sum f xs k t u below is same = let sums = sum_by-set f xs k u t below in let there = ap f is in omega (arith, sums, there, same)

pub set_teller : (h : Hub) (tellers : List Teller) (k : ℕ) (t u : Teller) → AreAllOf h tellers → k < length tellers → t ≡ get_or tellers k t → IsTellerOf h u → TellerKnowsMore t u → AreAllOf h (set tellers k u)
set_teller h tellers k t u are below is one more =
    let parts : row_parts (set tellers k u) ≡ row_parts tellers = same_sum _ tellers k t u below is more.parts in (
      λ i v at. elim (set_cases tellers k i u v below at) [
        | inl here ↦ subst (λ (w : Teller). IsTellerOf h w) (sym here.1) one
        | inr other ↦ are.0 i v other.1
      ],
      parts ∙ are.1,
    )
