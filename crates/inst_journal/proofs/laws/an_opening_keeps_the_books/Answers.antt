use Rattle.inst_journal.proofs.EffectsOfAnOpening.{same_money, same_keys, begins_anew}
use Rattle.inst_journal.proofs.laws.an_opening_keeps_the_books.Goals as goal

pub returns-clause-keeps : goal.returns-clause-keeps
returns-clause-keeps c = λ J. (same_money J, same_keys J)

pub returns-clause-gives_back : goal.returns-clause-gives_back
returns-clause-gives_back c = begins_anew
