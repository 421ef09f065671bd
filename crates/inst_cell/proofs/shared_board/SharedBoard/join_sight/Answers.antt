use Rattle.std.proofs.Common.{◌∙◌}
use Rattle.inst_cell.specs.Held.{roles_of}
use Rattle.inst_cell.proofs.TwoBoardsThatMeet.{no_roles_more}
use Rattle.inst_cell.proofs.shared_board.SharedBoard.join_sight.Goals as goal

pub returns-clause-stays : goal.returns-clause-stays
returns-clause-stays c =
    let e = c.join.ensures in
    record { settings = e.one.1; table = e.one.0; roles = e.roles.roles ∙ no_roles_more (roles_of c.args.self.now) _ c.args.sight.nobody }
