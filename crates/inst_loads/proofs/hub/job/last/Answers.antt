use Rattle.std.proofs.Common.{◌≡◌, sym, subst, List, length, Some}
use Rattle.std.specs.Prelude.{slice_get}
use Rattle.inst_base.proofs.Lists.{last_at}
use Rattle.inst_slot.proofs.LiveTransfersAfterEvent.{slice_get_left}
use Rattle.inst_hub.specs.declared.teller.Teller.{Teller}
use Rattle.inst_loads.proofs.Jobs.{last_parts}
use Rattle.inst_loads.proofs.hub.job.last.Goals as goal

pub returns-in-Some-clause-last : goal.returns-in-Some-clause-last
returns-in-Some-clause-last c = c.requires (length c.pop.new.self.items) c.in-Some.teller
    (subst (λ (l : List Teller). slice_get l (length c.pop.new.self.items) ≡ Some c.in-Some.teller) (sym c.in-Some.ensures.items) (last_at c.pop.new.self.items c.in-Some.teller))

pub returns-in-Some-clause-rest : goal.returns-in-Some-clause-rest
returns-in-Some-clause-rest c = λ i t at. c.requires i t
    (subst (λ (l : List Teller). slice_get l i ≡ Some t) (sym c.in-Some.ensures.items) (slice_get_left c.pop.new.self.items c.in-Some.teller t i at))

pub returns-in-Some-clause-parts : goal.returns-in-Some-clause-parts
returns-in-Some-clause-parts c = last_parts _ c.pop.new.self.items c.in-Some.teller c.in-Some.ensures.items
