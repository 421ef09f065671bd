use Rattle.std.proofs.Common.{sym, subst, ap, ◌∙◌, arith, length, ◌≡◌, List, [], ◌∷◌, ◌++◌}
use Rattle.inst_hub.specs.declared.teller.Teller.{Teller}
use Rattle.inst_hub.specs.Opening.{row_parts}
use Rattle.inst_crew.specs.Seen.{AreSeenByOne}
use Rattle.inst_drill.proofs.StaffOfOpening.{tellers_apart}
use Rattle.inst_drill.proofs.staff.Staff.confirm.Goals as goal

pub returns-clause-staff : goal.returns-clause-staff
returns-clause-staff g c =
    let crew = c.in_ok-crew.ensures in
    let before = c.requires.staff in
    let three : length c.in_ok-crew.crew.tellers.items ≡ 3 = (let many = crew.back.all_tellers in let two = before.each in omega (arith, many, two)) in
    let tellers = tellers_apart c.args.place.now.hub.now c.in_ok-crew.crew.tellers.items c.pop.new.self.items c.in-Some.sweeper c.in-Some.ensures.items crew.back.tellers three in
    record {
      feeder = c.in_ok-feed.ensures.0;
      hands = crew.back.hands;
      two = crew.back.all_hands ∙ before.two;
      dealt = (let same = crew.back.parts_of_hands in let own = c.in_ok-feed.ensures.1 in let all = before.dealt in omega (arith, same, own, all));
      sweeper = tellers.0;
      tellers = tellers.1.0;
      each = tellers.1.1;
      parts = ap row_parts (sym c.in-Some.ensures.items) ∙ (crew.back.parts_of_tellers ∙ (ap (λ (t : Teller). row_parts (c.args.self.tellers.items ++ t ∷ [])) c.sweep.ensures.by ∙ before.parts));
    }

pub returns-clause-states : goal.returns-clause-states
returns-clause-states g c =
    subst (λ (l : List Teller). AreSeenByOne l c.in_ok-crew.crew.states.items) c.in-Some.ensures.items c.in_ok-crew.ensures.worked.states
