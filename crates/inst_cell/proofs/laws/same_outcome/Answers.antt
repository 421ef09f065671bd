use Rattle.std.proofs.Common.{inl, inr}
use Rattle.inst_board.proofs.FactsOfOneStandingAgree.{same_decided}
use Rattle.inst_board.specs.declared.about.About.TheVariants.{Decided}
use Rattle.inst_board.specs.Standing.{about}
use Rattle.inst_cell.proofs.laws.same_outcome.Goals as goal

pub returns-clause-same : goal.returns-clause-same
returns-clause-same c = λ o z h g.
    let m = c.meet.ensures in
    let t = m.truly.0 c.args.place in
    same_decided t.0 o z (t.2 (Decided o) ((m.mine (about c.args.place (Decided o))).1 (inl h))) (t.2 (Decided z) ((m.mine (about c.args.place (Decided z))).1 (inr g)))
