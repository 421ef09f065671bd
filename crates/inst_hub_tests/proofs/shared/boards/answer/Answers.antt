use Rattle.std.proofs.Common.{refl, sym, subst, ℕ}
use Rattle.inst_board.specs.declared.about.About.TheVariants.{Opened, HasTerms, Due}
use Rattle.inst_board.specs.Standing.{Standing, Shows}
use Rattle.inst_cell.specs.Held.{has_role, roles_same}
use Rattle.inst_hub_tests.proofs.TwoParticipantBoards.{pending_look, party_to}
use Rattle.inst_hub_tests.proofs.shared.boards.answer.Goals as goal

pub decide-requires : goal.decide-requires
decide-requires c =
    let l = c.look.ensures.look in
    let d = c.look.new.self in
    let t = c.in-Pending.terms in
    let is = pending_look l.standing c.look.result t c.in-Pending.field-1 l.look_is c.in-Pending.is in
    let role : has_role d t.to = subst (λ (p : ℕ). has_role d p) (sym c.if-terms-who.true) ((roles_same c.args.board.now d c.args.who c.look.ensures.stays).0 c.requires) in
    record {
      terms = t;
      deadline = c.in-Pending.field-1;
      opened = l.learns.shown Opened (subst (λ (p : Standing). Shows p Opened) is tt);
      has_terms = l.learns.shown (HasTerms t) (subst (λ (p : Standing). Shows p (HasTerms t)) is refl);
      due = l.learns.shown (Due c.in-Pending.field-1) (subst (λ (p : Standing). Shows p (Due c.in-Pending.field-1)) is refl);
      party = party_to (has_role d) c.args.wish c.args.place t role;
    }
