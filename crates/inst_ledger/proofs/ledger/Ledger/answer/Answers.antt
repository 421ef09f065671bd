use Rattle.std.proofs.Common.{inr}
use Rattle.inst_journal.proofs.KeptEventsFit.{handled_as}
use Rattle.inst_ledger.proofs.ledger.Ledger.answer.Goals as goal

pub returns-in-Fund-clause-reply : goal.returns-in-Fund-clause-reply
returns-in-Fund-clause-reply c = inr (handled_as c.args.self.now.book.settings c.args.self.now.book.who c.args.self.now.book.events c.args.at c.args.found _ _ _ c.in-Fund.is c.change_funding.ensures)

pub returns-in-Fund-clause-no_memory : goal.returns-in-Fund-clause-no_memory
returns-in-Fund-clause-no_memory c = λ _. handled_as c.args.self.now.book.settings c.args.self.now.book.who c.args.self.now.book.events c.args.at c.args.found _ _ _ c.in-Fund.is c.change_funding.ensures

pub returns-in-Defund-clause-reply : goal.returns-in-Defund-clause-reply
returns-in-Defund-clause-reply c = inr (handled_as c.args.self.now.book.settings c.args.self.now.book.who c.args.self.now.book.events c.args.at c.args.found _ _ _ c.in-Defund.is c.change_funding-in-Defund.ensures)

pub returns-in-Defund-clause-no_memory : goal.returns-in-Defund-clause-no_memory
returns-in-Defund-clause-no_memory c = λ _. handled_as c.args.self.now.book.settings c.args.self.now.book.who c.args.self.now.book.events c.args.at c.args.found _ _ _ c.in-Defund.is c.change_funding-in-Defund.ensures

pub returns-in-Confirm-clause-reply : goal.returns-in-Confirm-clause-reply
returns-in-Confirm-clause-reply c = inr (handled_as c.args.self.now.book.settings c.args.self.now.book.who c.args.self.now.book.events c.args.at c.args.found _ _ _ c.in-Confirm.is c.confirm.ensures)

pub returns-in-Confirm-clause-no_memory : goal.returns-in-Confirm-clause-no_memory
returns-in-Confirm-clause-no_memory c = λ _. handled_as c.args.self.now.book.settings c.args.self.now.book.who c.args.self.now.book.events c.args.at c.args.found _ _ _ c.in-Confirm.is c.confirm.ensures

pub returns-in-Reject-clause-reply : goal.returns-in-Reject-clause-reply
returns-in-Reject-clause-reply c = inr (handled_as c.args.self.now.book.settings c.args.self.now.book.who c.args.self.now.book.events c.args.at c.args.found _ _ _ c.in-Reject.is c.reject.ensures)

pub returns-in-Reject-clause-no_memory : goal.returns-in-Reject-clause-no_memory
returns-in-Reject-clause-no_memory c = λ _. handled_as c.args.self.now.book.settings c.args.self.now.book.who c.args.self.now.book.events c.args.at c.args.found _ _ _ c.in-Reject.is c.reject.ensures
