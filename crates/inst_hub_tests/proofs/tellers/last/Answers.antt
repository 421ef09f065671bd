use Rattle.std.proofs.Common.{List, length, ◌∷◌, [], ◌∙◌, ap}
use Rattle.std.specs.Prelude.{slice_get}
use Rattle.inst_base.proofs.Lists.{last_at}
use Rattle.inst_hub.specs.declared.teller.Teller.{Teller}
use Rattle.inst_crew.proofs.LastHand.{at_front}
use Rattle.inst_hub_tests.proofs.tellers.last.Goals as goal

pub returns-in-Some-clause-last : goal.returns-in-Some-clause-last
returns-in-Some-clause-last c = c.requires (length c.pop.new.self.items) c.in-Some.teller
    (ap (λ (l : List Teller). slice_get l (length c.pop.new.self.items)) c.in-Some.ensures.items ∙ last_at c.pop.new.self.items c.in-Some.teller)

pub returns-in-Some-clause-rest : goal.returns-in-Some-clause-rest
returns-in-Some-clause-rest c = λ i t e.
    c.requires i t (ap (λ (l : List Teller). slice_get l i) c.in-Some.ensures.items ∙ at_front c.pop.new.self.items (c.in-Some.teller ∷ []) i t e)
