use Rattle.std.proofs.Common.{◌∙◌}
use Rattle.inst_loads.proofs.stress.end.Goals as goal

pub returns-in_err-agree : goal.returns-in_err-agree
returns-in_err-agree g c =
    let one = c.meet_all.ensures in
    let two = c.meet_all-2.ensures in
    let seen = c.peek_all.ensures c.args.hub.now two.0.0 in
    let agreed = c.agree.ensures c.args.hub.now two.1.0 in
    ((seen.0, seen.1 ∙ (two.0.1 ∙ one.0.1)), (agreed.0, agreed.1 ∙ (two.1.1 ∙ one.1.1)))

pub settle_all-requires : goal.settle_all-requires
settle_all-requires g c = (c.peek_all.ensures c.args.hub.now c.meet_all-2.ensures.0.0).0

pub returns-in_err-settle_all : goal.returns-in_err-settle_all
returns-in_err-settle_all g c =
    let one = c.meet_all.ensures in
    let two = c.meet_all-2.ensures in
    let seen = c.peek_all.ensures c.args.hub.now two.0.0 in
    let agreed = c.agree.ensures c.args.hub.now two.1.0 in
    let settled = c.settle_all.ensures in
    ((settled.0, settled.1 ∙ (seen.1 ∙ (two.0.1 ∙ one.0.1))), (agreed.0, agreed.1 ∙ (two.1.1 ∙ one.1.1)))

pub returns : goal.returns
returns g c =
    let one = c.meet_all.ensures in
    let two = c.meet_all-2.ensures in
    let seen = c.peek_all.ensures c.args.hub.now two.0.0 in
    let agreed = c.agree.ensures c.args.hub.now two.1.0 in
    let settled = c.settle_all.ensures in
    let again = c.agree-2.ensures c.args.hub.now agreed.0 in
    ((settled.0, settled.1 ∙ (seen.1 ∙ (two.0.1 ∙ one.0.1))), (again.0, again.1 ∙ (agreed.1 ∙ (two.1.1 ∙ one.1.1))))
