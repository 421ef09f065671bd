use Rattle.std.proofs.Common.{◌≡◌, ℕ, List, true, false, is_some, sym, ap, ◌∙◌, rules}
use Rattle.inst_journal.specs.Booked.{is_forwarded, booked}
use Rattle.inst_transfers.specs.State.{outcome_in}
use Rattle.inst_ledger.specs.Right.{forwarding_in}
use Rattle.inst_ledger.proofs.ForwardedTransfers.{forwarded_found}
use Rattle.inst_ledger.proofs.ledger.Ledger.answer_forwarded.Goals as goal

pub returns-then-is_none : goal.returns-then-is_none
returns-then-is_none c =
    let key : ℕ × List ℕ = (c.args.from, c.args.id) in
    let unknown : is_forwarded c.args.from c.args.id c.args.self.now.book.events ≡ false =
    forwarded_found key c.args.self.now.book.events ∙ ap is_some (sym (c.forwarding_in.ensures ∙ ap forwarding_in c.transfer-known.ensures.found ∙ c.transfer-known.ensures.right.forwarded key)) ∙ c.if-is_none.ensures in
    search (rules, unknown)

pub returns : goal.returns
returns c =
    let key : ℕ × List ℕ = (c.args.from, c.args.id) in
    let known : is_forwarded c.args.from c.args.id c.args.self.now.book.events ≡ true =
    forwarded_found key c.args.self.now.book.events ∙ ap is_some (sym (c.forwarding_in.ensures ∙ ap forwarding_in c.transfer-known.ensures.found ∙ c.transfer-known.ensures.right.forwarded key)) ∙ c.if-is_none.ensures in
    let outcome : c.outcome_in-booked.result ≡ booked c.args.from c.args.id c.args.self.now.book.events =
    c.outcome_in-booked.ensures ∙ ap outcome_in c.transfer-known.ensures.found ∙ c.transfer-known.ensures.right.booked key in
    search (rules, known, outcome)
