use Rattle.std.proofs.Common.{◌∙◌, sym, refl}
use Rattle.inst_hub_tests.proofs.TwoParticipantBoards.{one_only}
use Rattle.inst_hub_tests.proofs.shared.boards.open_two.Goals as goal

pub returns-clause-settings : goal.returns-clause-settings
returns-clause-settings c = (c.in_ok-boards.ensures.ok.board 0 c.both-first.result.0 c.both-first.ensures.0).settings

pub returns-clause-roles : goal.returns-clause-roles
returns-clause-roles c =
    let o = c.in_ok-boards.ensures.ok in
    let first = o.board 0 c.both-first.result.0 c.both-first.ensures.0 in
    let second = o.board 1 c.both-first.result.1 c.both-first.ensures.1 in
    ((first.role 0).1 refl, (second.role 1).1 refl)

pub returns-clause-nothing : goal.returns-clause-nothing
returns-clause-nothing c = λ f h. ((c.in_ok-boards.ensures.ok.board 0 c.both-first.result.0 c.both-first.ensures.0).known f).0 h

pub returns-clause-one : goal.returns-clause-one
returns-clause-one c =
    let o = c.in_ok-boards.ensures.ok in
    let first = o.board 0 c.both-first.result.0 c.both-first.ensures.0 in
    let sight = o.sight 0 c.in-Some.sight (one_only c.in_ok-boards.sights.items c.pop.new.self.items c.in-Some.sight c.in-Some.ensures.items o.enough) in
    (sight.table ∙ sym first.table, sight.settings ∙ sym first.settings)
