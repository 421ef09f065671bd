use Rattle.std.proofs.Common.{rules, arith}
use Rattle.std.proofs.lemmas.Grind.{common_steps}
use Rattle.inst_desk.proofs.StepsKeepDeskRule.{takes, may_lie}
use Rattle.inst_desk.proofs.HandWithAllParts.{some_part, begun, has_room, short}
use Rattle.inst_desk.proofs.desk.ending.drain.Goals as goal

pub len_as-requires-clause-rule : goal.len_as-requires-clause-rule
len_as-requires-clause-rule g c = may_lie _ _

pub pop_as-requires-clause-rule : goal.pop_as-requires-clause-rule
pop_as-requires-clause-rule g c = (takes _ _ (some_part _ _ _ c.loop.invariant.1), may_lie _ _)

pub loop-init : goal.loop-init
loop-init g c =
    let q = c.len_as.ensures.queue in let r = c.len_as.ensures.rule in
    (search rules, begun _ _ _ q.1 c.requires.all c.requires.empty, c.requires.room, short _ _ _ r.1 c.requires.all r.0)

pub push_reserved-requires : goal.push_reserved-requires
push_reserved-requires g c =
    let i = c.loop.invariant in let short = has_room _ _ _ _ _ _ i.1 c.in-Some-pop_as.ensures.rule.1 i.3 in search (rules, short)

pub returns-in_default : goal.returns-in_default
returns-in_default g c = grind (arith, common_steps)

pub loop-preserved : goal.loop-preserved
loop-preserved g c = grind (arith, common_steps)
