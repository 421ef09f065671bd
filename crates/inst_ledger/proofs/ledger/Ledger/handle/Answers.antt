use Rattle.inst_journal.proofs.KeptEventsFit.{handled_kept}
use Rattle.inst_ledger.specs.Book.{answer_to}
use Rattle.inst_ledger.proofs.HistoryEventByEvent.{may_keep}
use Rattle.inst_ledger.proofs.ledger.Ledger.handle.Goals as goal

pub returns-clause-kept : goal.returns-clause-kept
returns-clause-kept c =
    let book = c.args.self.now.book in
    may_keep book c.answer.result (answer_to book c.args.command.now c.args.at c.args.found) c.answer.ensures.reply
    (handled_kept book.settings book.who book.events c.args.command.now c.args.at c.args.found c.requires)
