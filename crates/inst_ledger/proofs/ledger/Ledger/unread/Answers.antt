use Rattle.std.proofs.Common.{ℕ, length, take, ap, ◌∙◌, ◌≡◌, arith}
use Rattle.std.specs.Prelude.{min}
use Rattle.inst_transfers.specs.State.{rows_of}
use Rattle.inst_ledger.specs.Inbox.{entries_at}
use Rattle.inst_ledger.proofs.Inbox.{within_front, entries_front, if_ok}
use Rattle.std.proofs.lemmas.List.{take_min}
use Rattle.inst_ledger.proofs.ledger.Ledger.unread.Goals as goal

pub entries-requires : goal.entries-requires
entries-requires c =
    let b = c.args.self.now.book in
    record { within = within_front (length (rows_of b.who b.events)) c.min.result c.rest-rest.result.now c.rest-rest.ensures.within }

pub returns-clause-ok : goal.returns-clause-ok
returns-clause-ok c =
    let b = c.args.self.now.book in
    let rows = rows_of b.who b.events in
    let ps = c.rest-rest.result.now in
    let swap : min (length ps) c.args.max ≡ min c.args.max (length ps) = omega arith in
    let front : take c.min.result ps ≡ take c.args.max ps = ap (λ (n : ℕ). take n ps) (c.min.ensures ∙ swap) ∙ take_min c.args.max ps in
    if_ok c.entries.result (λ entries is. is ∙ ap (entries_at rows) front ∙ entries_front rows c.args.max ps ∙ ap (take c.args.max) c.rest-rest.ensures.came) c.entries.ensures.ok
