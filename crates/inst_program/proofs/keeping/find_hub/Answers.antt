use Rattle.inst_program.proofs.keeping.find_hub.Goals as goal

pub returns-clause-first : goal.returns-clause-first
returns-clause-first g c = rw c.is_absent.ensures.read.left.same at c.of_log.ensures.first
