use Rattle.std.proofs.Common.{◌≡◌, true, false, is_some, sym, ap, ◌∙◌, rules}
use Rattle.inst_journal.specs.Booked.{is_taken, booked}
use Rattle.inst_transfers.specs.Held.{found_at}
use Rattle.inst_transfers.specs.State.{outcome_in}
use Rattle.inst_ledger.specs.Right.{sending_in}
use Rattle.inst_ledger.proofs.Tables.{taken_found}
use Rattle.inst_ledger.proofs.ledger.Ledger.investigate.Goals as goal

pub returns-then-is_none : goal.returns-then-is_none
returns-then-is_none c =
    let book = c.args.self.now.book in
    let found = c.transfer-known.ensures.found ∙ ap (λ who. found_at c.args.self.now.table.entries (who, c.args.id)) c.who-who.ensures in
    let unknown : is_taken c.args.id book.events ≡ false =
    taken_found c.args.id book.events ∙ ap is_some (sym (c.sending_in.ensures ∙ ap sending_in found ∙ c.transfer-known.ensures.right.taken c.args.id)) ∙ c.if-is_none.ensures in
    search (rules, unknown)

pub returns : goal.returns
returns c =
    let book = c.args.self.now.book in
    let found = c.transfer-known.ensures.found ∙ ap (λ who. found_at c.args.self.now.table.entries (who, c.args.id)) c.who-who.ensures in
    let known : is_taken c.args.id book.events ≡ true =
    taken_found c.args.id book.events ∙ ap is_some (sym (c.sending_in.ensures ∙ ap sending_in found ∙ c.transfer-known.ensures.right.taken c.args.id)) ∙ c.if-is_none.ensures in
    let outcome : c.outcome_in-booked.result ≡ booked book.who c.args.id book.events =
    c.outcome_in-booked.ensures ∙ ap outcome_in found ∙ c.transfer-known.ensures.right.booked (book.who, c.args.id) in
    search (rules, known, outcome)
