use Rattle.std.proofs.Common.{◌≡◌, ◌∙◌, sym, ap, subst, Option}
use Rattle.inst_command.specs.declared.entry.Entry.{Entry}
use Rattle.inst_journal.specs.Booked.{booked}
use Rattle.inst_ledger.proofs.Inbox.{finds_there, found_entry}
use Rattle.inst_transfers.specs.declared.transfer.Found.{Found}
use Rattle.inst_transfers.specs.Held.{FindsAt}
use Rattle.inst_transfers.specs.State.{outcome_in}
use Rattle.inst_slot.proofs.arrivals.booked_at.Goals as goal

pub unwrap-requires : goal.unwrap-requires
unwrap-requires c =
    let l = c.args.ledger.now in
    finds_there l.book.who l.book.events l.table c.args.position c.at.result c.at.ensures.right c.requires c.at.ensures.found

pub returns : goal.returns
returns c =
    let l = c.args.ledger.now in
    let f = c.unwrap.result in
    let found = subst (λ (r : Option Found). FindsAt l.table c.args.position r) c.unwrap.ensures c.at.ensures.found in
    let entry = found_entry l.book.who l.book.events l.table c.args.position f c.at.ensures.right found in
    let known : f.transfer.outcome ≡ booked f.from f.id l.book.events = sym (ap outcome_in found.1.transfer) ∙ c.at.ensures.right.booked (f.from, f.id) in
    known ∙ sym (ap (λ (e : Entry). booked e.from e.id l.book.events) entry)
