use Rattle.std.proofs.Common.{subst}
use Rattle.inst_settings.specs.Settings.{HubSettings}
use Rattle.inst_board.specs.Learning.{Decides}
use Rattle.inst_board.proofs.DecisionsStay.{decided_once}
use Rattle.inst_board.proofs.laws.decide_twice.Goals as goal

pub returns-clause-once : goal.returns-clause-once
returns-clause-once g c =
    let same = g.met.B.Board.stays_settings _ _ c.decide-answer.ensures.stays in
    decided_once (g.B.Board.settings c.args.board.now).margin g.B.Board.knows g.B.Board.stood _ _ _ _ _ _ _ _ _ _ _ c.decide-answer.ensures.decides (λ f h. h)
    (subst (λ (s : HubSettings). Decides s.margin g.B.Board.knows g.B.Board.stood c.decide-answer.new.self c.args.place c.args.second c.args.later c.decide-again.result c.decide-again.new.self) same c.decide-again.ensures.decides)
