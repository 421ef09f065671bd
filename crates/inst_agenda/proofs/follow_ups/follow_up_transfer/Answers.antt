use Rattle.inst_agenda.proofs.follow_ups.follow_up_transfer.Goals as goal

pub returns-clause-ok : goal.returns-clause-ok
returns-clause-ok c = λ O L was.
    let delivered = (c.in_ok-step.ensures.ok O L was).1 in
    let learnt = (c.in_ok-step-2.ensures.ok O _ delivered).1 in
    let expired = (c.in_ok-step-3.ensures.ok O _ learnt).1 in
    (c.in_ok-step-4.ensures.ok O _ expired).1
