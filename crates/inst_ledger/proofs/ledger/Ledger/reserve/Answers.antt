use Rattle.std.proofs.Common.{refl, rules}
use Rattle.inst_ledger.proofs.StatementLineOfEvent.{ledger_same}
use Rattle.inst_ledger.proofs.ledger.Ledger.reserve.Goals as goal

pub invariant_of-self-2 : goal.invariant_of-self-2
invariant_of-self-2 c = ledger_same c.reserve.ensures.events _ refl (λ _. refl) refl c.reserve-2.ensures.lines c.reserve-2.ensures.begun c.self.invariant

pub returns-clause-room : goal.returns-clause-room
returns-clause-room c = search rules
