use Rattle.std.proofs.Common.{sym, ◌∙◌, rules}
use Rattle.std.proofs.lemmas.Slice.Eq.{slice_eq-Decides}
use Rattle.inst_order.proofs.order.are_equal.Goals as goal

pub returns : goal.returns
returns c =
    let decides = slice_eq-Decides (λ a b. search rules) c.events.result.now c.events-2.result.now c.eq.result c.eq.ensures in (
      λ yes. sym c.events.ensures ∙ (decides.0 yes ∙ c.events-2.ensures),
      λ same. decides.1 (c.events.ensures ∙ (same ∙ sym c.events-2.ensures)),
    )
