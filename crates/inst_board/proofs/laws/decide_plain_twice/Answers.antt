use Rattle.std.proofs.Common.{◌∙◌}
use Rattle.inst_board.specs.declared.about.About.TheVariants.{Opened}
use Rattle.inst_board.specs.Standing.{about}
use Rattle.inst_board.specs.Plain.{standing_after, standing_at}
use Rattle.inst_board.proofs.PromisesExactOnPlainBoard.{decides_exactly, plain_may, same_outcome}
use Rattle.inst_board.proofs.laws.decide_plain_twice.Goals as goal

pub decide_twice-requires-clause-first : goal.decide_twice-requires-clause-first
decide_twice-requires-clause-first c = plain_may c.args.board.now.settings.margin c.args.board.now c.args.place c.args.first c.requires

pub decide_twice-requires-clause-second : goal.decide_twice-requires-clause-second
decide_twice-requires-clause-second c = plain_may c.args.board.now.settings.margin c.args.board.now c.args.place c.args.second c.requires

pub returns-clause-first : goal.returns-clause-first
returns-clause-first c =
    let d = c.decide_twice.ensures.decides in
    (decides_exactly c.args.board.now.settings.margin c.args.board.now d.0 c.args.place c.args.first c.args.at c.decide_twice.result.0 c.requires d.1).0

pub returns-clause-second : goal.returns-clause-second
returns-clause-second c =
    let d = c.decide_twice.ensures.decides in
    let k = c.args.place in
    let one = decides_exactly c.args.board.now.settings.margin c.args.board.now d.0 k c.args.first c.args.at c.decide_twice.result.0 c.requires d.1 in
    let two = decides_exactly c.args.board.now.settings.margin d.0 c.decide_twice.new.board k c.args.second c.args.later c.decide_twice.result.1 (d.1.learns.kept (about k Opened) c.requires) d.2 in
    two.0 ∙ same_outcome c.args.board.now.settings.margin c.args.second c.args.later (standing_at d.0 k) (standing_after c.args.board.now.settings.margin c.args.first c.args.at (standing_at c.args.board.now k)) one.1.here
