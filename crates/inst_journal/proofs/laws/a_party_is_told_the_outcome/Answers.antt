use Rattle.inst_journal.proofs.OutcomeIsToldToPartiesAlone.{told_the_outcome, told_nothing}
use Rattle.inst_journal.proofs.laws.a_party_is_told_the_outcome.Goals as goal

pub returns-clause-party : goal.returns-clause-party
returns-clause-party c = told_the_outcome

pub returns-clause-others : goal.returns-clause-others
returns-clause-others c = told_nothing
