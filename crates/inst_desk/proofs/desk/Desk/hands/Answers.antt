use Rattle.std.proofs.Common.{rules, arith, length, ap, ◌≡◌, ◌+◌, ◌∙◌}
use Rattle.std.proofs.lemmas.List.{length-append}
use Rattle.inst_desk.proofs.StepsKeepDeskRule.{deals}
use Rattle.inst_desk.proofs.Hands.{dealt_first, dealt_more, dealt_all}
use Rattle.inst_desk.proofs.desk.Desk.hands.Goals as goal

pub loop-number-init : goal.loop-number-init
loop-number-init c = (c.requires.on, dealt_first _ _ _ c.requires.first c.new-all.ensures.items, search rules)

pub another-new-requires-clause-rule : goal.another-new-requires-clause-rule
another-new-requires-clause-rule c =
    let i = c.loop-number.invariant in let p = i.1.parts in let m = c.requires.hands.1 in let t = c.loop-number-test.true in deals _ _ (omega arith)

pub loop-number-preserved : goal.loop-number-preserved
loop-number-preserved c =
    let i = c.loop-number.invariant in let p = i.1.parts in let m = c.requires.hands.1 in let t = c.loop-number-test.true in (
      search rules,
      dealt_more _ _ _ _ _ _ _ i.1 (omega arith) c.another-new.ensures.rule.0 c.another-new.ensures.rule.1 c.another-new.ensures.queue.1 c.new_hand.ensures c.in_ok-push.ensures.items,
      (let e = i.2 in let l : length c.push.new.self.items ≡ length c.loop-number.all.items + 1 = ap length c.in_ok-push.ensures.items ∙ length-append _ _ in omega arith),
    )

pub returns-clause-all : goal.returns-clause-all
returns-clause-all c =
    let i = c.loop-number.invariant in let m = c.requires.hands.1 in let t = c.loop-number.auto._number-end in
    (dealt_all _ _ _ _ _ i.1 (omega arith) i.0 c.new_hand-2.ensures c.in_ok-push-2.ensures.items).0

pub returns-clause-new : goal.returns-clause-new
returns-clause-new c =
    let i = c.loop-number.invariant in let m = c.requires.hands.1 in let t = c.loop-number.auto._number-end in
    (dealt_all _ _ _ _ _ i.1 (omega arith) i.0 c.new_hand-2.ensures c.in_ok-push-2.ensures.items).1
