use Rattle.std.proofs.Common.{◌∙◌}
use Rattle.inst_cell.specs.Held.{roles_of}
use Rattle.inst_cell.proofs.TwoBoardsThatMeet.{no_roles_more}
use Rattle.inst_cell.proofs.sight.Sight.join.Goals as goal

pub invariant_of-self : goal.invariant_of-self
invariant_of-self c = record { nobody = c.join.ensures.roles.roles ∙ (no_roles_more (roles_of c.args.self.now.board) _ c.args.other.nobody ∙ c.args.self.now.nobody) }
