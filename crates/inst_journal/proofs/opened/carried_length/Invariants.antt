use Rattle.inst_journal.proofs.EventsCarriedOverOpening.{LastOpened}
use Rattle.inst_journal.proofs.opened.carried_length.Given as goal

abbrev pub invariant-loop-index : goal.invariant-loop-index
invariant-loop-index l = LastOpened l.events l.index l.carried
