use Rattle.std.proofs.Common.{◌∙◌, Some, ap, sym, arith}
use Rattle.inst_logged.proofs.BooksBehindFirstLine.{books_found, all_found, books_whole, unrefused_is, unrefused_ok}
use Rattle.inst_logged.proofs.hub.finding.journals_in.Goals as goal

pub returns-then-count_lines-count-clause-found : goal.returns-then-count_lines-count-clause-found
returns-then-count_lines-count-clause-found c = λ journals can has counted.
    let there = all_found c.args.version c.args.settings.now journals c.args.text.now has c.lines_len-begin.result c.lines_len-begin.ensures.len c.args.count c.lines_len-end.result counted c.lines_len-end.ensures.len in
    absurd (omega (arith, there, c.count_lines.ensures.count, c.if-count_lines-count.true))

pub returns-in-Ok-clause-found : goal.returns-in-Ok-clause-found
returns-in-Ok-clause-found c = λ journals can has counted.
    let there = books_found c.args.version c.args.settings.now journals c.args.text.now has c.lines_len-begin.result c.lines_len-begin.ensures.len c.args.count c.lines_len-end.result counted c.lines_len-end.ensures.len in
    ap Some (unrefused_ok _ c.journals_of.result c.in-Ok.journals (c.journals_of.ensures.found journals can (there ∙ sym (books_whole c.args.settings.now journals can.books))) c.in-Ok.is)

pub returns-in-Err-Books-clause-found : goal.returns-in-Err-Books-clause-found
returns-in-Err-Books-clause-found c = λ journals can has counted.
    let there = books_found c.args.version c.args.settings.now journals c.args.text.now has c.lines_len-begin.result c.lines_len-begin.ensures.len c.args.count c.lines_len-end.result counted c.lines_len-end.ensures.len in
    let no = unrefused_is _ c.journals_of.result _ (c.journals_of.ensures.found journals can (there ∙ sym (books_whole c.args.settings.now journals can.books))) c.in-Err-Books.is in
    absurd ((rw c.in-Err-Books.field-0-is at no) tt)

pub returns-in-Err-clause-found : goal.returns-in-Err-clause-found
returns-in-Err-clause-found c = λ journals can has counted.
    let there = books_found c.args.version c.args.settings.now journals c.args.text.now has c.lines_len-begin.result c.lines_len-begin.ensures.len c.args.count c.lines_len-end.result counted c.lines_len-end.ensures.len in
    unrefused_is _ c.journals_of.result c.in-Err.error (c.journals_of.ensures.found journals can (there ∙ sym (books_whole c.args.settings.now journals can.books))) c.in-Err.is
