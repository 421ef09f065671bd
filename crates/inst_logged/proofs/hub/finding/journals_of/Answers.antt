use Rattle.std.proofs.Common.{◌∙◌, ap, sym, true≢false}
use Rattle.std.proofs.lemmas.Result.{err_from_is_err_and}
use Rattle.inst_books.specs.Books.{all_events}
use Rattle.inst_logged.proofs.BooksBehindFirstLine.{read_same, read_fails, unrefused_err, fault_unrefused, mapped_ok, can_open_same}
use Rattle.inst_logged.proofs.hub.finding.journals_of.Goals as goal

pub returns-in_err-journals-clause-found : goal.returns-in_err-journals-clause-found
returns-in_err-journals-clause-found c = λ journals can is.
    unrefused_err _ c.from_residual.result c.in_err-journals.field-0.0 (err_from_is_err_and c.from_residual.result c.from_residual.ensures.1)
    (fault_unrefused _ c.read_books.result c.map_err.result c.in_err-journals.field-0.0 c.map_err.ensures.cases c.in_err-journals.was
    (read_fails (λ js. all_events js.items) c.read_books.result c.args.settings.now journals can.books c.args.text.now is c.read_books.ensures.value)
    (λ f e learnt. learnt))

pub returns-then-not-branch-clause-found : goal.returns-then-not-branch-clause-found
returns-then-not-branch-clause-found c = λ journals can is _.
    let read = mapped_ok _ c.read_books.result c.map_err.result c.in_ok-journals.journals c.map_err.ensures.cases c.in_ok-journals.was in
    let same = read_same (λ js. all_events js.items) c.read_books.result c.args.settings.now journals can.books c.args.text.now is c.read_books.ensures.value c.in_ok-journals.journals read in
    let again = can_open_same c.args.settings.now journals c.deref.result.now (sym same ∙ ap all_events (sym c.deref.ensures.value)) can.can in
    true≢false (sym (c.in_ok-can_open.ensures.can.1 again) ∙ c.if-not-branch.true)

pub returns-clause-found : goal.returns-clause-found
returns-clause-found c = λ journals can is.
    let read = mapped_ok _ c.read_books.result c.map_err.result c.in_ok-journals.journals c.map_err.ensures.cases c.in_ok-journals.was in
    read_same (λ js. all_events js.items) c.read_books.result c.args.settings.now journals can.books c.args.text.now is c.read_books.ensures.value c.in_ok-journals.journals read
