use Rattle.std.proofs.Common.{ℕ, length, get_or, sym, ap, ◌∙◌}
use Rattle.std.proofs.lemmas.List.{length-map}
use Rattle.inst_transfers.specs.State.{rows_of}
use Rattle.inst_ledger.specs.Inbox.{no_entry}
use Rattle.inst_ledger.proofs.ledger.Ledger.unread_count.Goals as goal

pub returns : goal.returns
returns c =
    let b = c.args.self.now.book in
    sym (length-map c.rest.result.now (λ (p : ℕ). get_or (rows_of b.who b.events) p no_entry)) ∙ ap length c.rest.ensures.came
