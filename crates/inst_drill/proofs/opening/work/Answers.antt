use Rattle.std.proofs.Common.{sym, subst, ap, ◌∙◌, List}
use Rattle.inst_hub.specs.declared.teller.Teller.{Teller}
use Rattle.inst_hub.specs.Calls.{AreOf}
use Rattle.inst_hub.specs.Opening.{row_parts}
use Rattle.inst_crew.specs.Seen.{AreSeenByOne}
use Rattle.inst_drill.proofs.SeenStatesAreInBooks.{seen_later}
use Rattle.inst_drill.proofs.StaffOfOpening.{all_tellers}
use Rattle.inst_drill.proofs.opening.work.Goals as goal

pub submit-requires-after_bounds : goal.submit-requires-after_bounds
submit-requires-after_bounds g c κs within = c.fund.ensures.staff c.in_ok-desk.desk c.of-staff.ensures

pub sweep-requires-clause-staff : goal.sweep-requires-clause-staff
sweep-requires-clause-staff g c = (c.in_ok-desk.desk, c.in_ok-confirmed.ensures.staff)

pub finish-requires : goal.finish-requires
finish-requires g c = c.in_ok-hands.ensures.hands c.args.hub.now c.in_ok-desk.desk (c.sweep.ensures.staff c.in_ok-desk.desk c.in_ok-confirmed.ensures.staff)

pub returns-clause-of : goal.returns-clause-of
returns-clause-of g c =
    let staff = c.sweep.ensures.staff c.in_ok-desk.desk c.in_ok-confirmed.ensures.staff in
    subst (λ (l : List Teller). AreOf c.args.hub.now l) (sym c.in_ok-hands.ensures.tellers) (all_tellers c.args.hub.now _ _ staff.tellers staff.sweeper)

pub returns-clause-parts : goal.returns-clause-parts
returns-clause-parts g c =
    let staff = c.sweep.ensures.staff c.in_ok-desk.desk c.in_ok-confirmed.ensures.staff in
    ap row_parts c.in_ok-hands.ensures.tellers ∙ staff.parts

pub returns-clause-submitted : goal.returns-clause-submitted
returns-clause-submitted g c =
    subst (λ (l : List Teller). AreSeenByOne l c.in_ok-submitted.submitted.states.items) (sym c.in_ok-hands.ensures.tellers)
    (seen_later c.args.hub.now _ _ _ c.in_ok-sweep.ensures.later (seen_later c.args.hub.now _ _ _ c.in_ok-confirmed.ensures.later c.in_ok-submitted.ensures.states))

pub returns-clause-confirmed : goal.returns-clause-confirmed
returns-clause-confirmed g c =
    subst (λ (l : List Teller). AreSeenByOne l c.in_ok-confirmed.confirmed.states.items) (sym c.in_ok-hands.ensures.tellers)
    (seen_later c.args.hub.now _ _ _ c.in_ok-sweep.ensures.later c.in_ok-confirmed.ensures.states)
