use Rattle.std.proofs.Common.{refl, subst}
use Rattle.inst_board.specs.declared.about.About.TheVariants.{HasTerms}
use Rattle.inst_board.specs.Standing.{Standing, Shows}
use Rattle.inst_hub_tests.proofs.TwoParticipantBoards.{pending_look, ended_terms}
use Rattle.inst_hub_tests.proofs.shared.boards.glanced.Goals as goal

pub place_state-requires : goal.place_state-requires
place_state-requires c =
    let l = c.look.ensures.look in
    let t = c.in-Pending._terms in
    let is = pending_look l.standing c.look.result t c.in-Pending.field-1 l.look_is c.in-Pending.is in
    record { terms = (t, l.learns.shown (HasTerms t) (subst (λ (p : Standing). Shows p (HasTerms t)) is refl)) }

pub place_state-requires-in-Decided : goal.place_state-requires-in-Decided
place_state-requires-in-Decided c =
    let l = c.look.ensures.look in
    let t = c.in-Decided._terms in
    record { terms = (t, l.learns.shown (HasTerms t) (ended_terms l.standing c.look.result t c.in-Decided.field-1 l.look_is c.in-Decided.is)) }
