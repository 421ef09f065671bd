use Rattle.inst_journal.proofs.StatementLeadsToPosition.{count_from_one, begins_a_statement, leads_to_the_position}
use Rattle.inst_journal.proofs.PagesOfInboxAndStatement.{next_part}
use Rattle.inst_journal.proofs.laws.a_statement_leads_to_the_position.Goals as goal

pub returns-clause-numbers : goal.returns-clause-numbers
returns-clause-numbers c = count_from_one

pub returns-clause-anew : goal.returns-clause-anew
returns-clause-anew c = begins_a_statement

pub returns-clause-positions : goal.returns-clause-positions
returns-clause-positions c = leads_to_the_position

pub returns-clause-parts : goal.returns-clause-parts
returns-clause-parts c = next_part
