use Rattle.inst_hub.proofs.teller.Teller.peek.Goals as goal

pub returns-clause-peek : goal.returns-clause-peek
returns-clause-peek c = c.peek.ensures.peek

pub returns-clause-opened : goal.returns-clause-opened
returns-clause-opened c = c.peek.ensures.opened

pub returns-clause-outcome : goal.returns-clause-outcome
returns-clause-outcome c = c.peek.ensures.outcome

pub returns-clause-shown : goal.returns-clause-shown
returns-clause-shown c = c.peek.ensures.shown
