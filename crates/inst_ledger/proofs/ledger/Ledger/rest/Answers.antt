use Rattle.std.proofs.Common.{ℕ, length, drop, get_or, sym, ap, ◌∙◌, arith, subst}
use Rattle.std.proofs.lemmas.List.{length-map}
use Rattle.inst_journal.specs.Reply.{inbox, unread}
use Rattle.inst_journal.proofs.HandedOutWithinInbox.{handed_within}
use Rattle.inst_transfers.specs.Held.{AreWithin}
use Rattle.inst_transfers.specs.State.{rows_of}
use Rattle.inst_ledger.specs.Book.{BookAndRoom}
use Rattle.inst_ledger.specs.Inbox.{no_entry, entries_at}
use Rattle.inst_ledger.proofs.Inbox.{entries_rest, within_rest}
use Rattle.inst_ledger.proofs.ledger.Ledger.rest.Goals as goal

pub after-requires : goal.after-requires
after-requires c =
    let i = c.self.inside in
    let b = c.self.invariant.beside.inboxed in
    omega (arith, b.were_read, ap length c.as_slice.ensures.value, length-map i.inbox.items (λ (p : ℕ). get_or (rows_of i.who i.journal.events) p no_entry), ap length b.came, handed_within i.settings.value i.who i.journal.events c.self.invariant.beside.sound)

pub returns-clause-came : goal.returns-clause-came
returns-clause-came c =
    let i = c.self.inside in
    let b = c.self.invariant.beside.inboxed in
    let rows = rows_of i.who i.journal.events in
    sym (ap (λ (b : BookAndRoom). entries_at (rows_of b.book.who b.book.events) c.after.result.now) c.self.view_is)
    ∙ ap (entries_at rows) (c.after.ensures ∙ ap (drop i.read) c.as_slice.ensures.value) ∙ entries_rest rows i.read i.inbox.items ∙ ap (drop i.read) b.came
    ∙ ap (λ (read : ℕ). drop read (inbox i.journal.events)) b.were_read ∙ ap (λ (b : BookAndRoom). unread b.book.events) c.self.view_is

pub returns-clause-within : goal.returns-clause-within
returns-clause-within c =
    let i = c.self.inside in
    let b = c.self.invariant.beside.inboxed in
    subst (λ (b : BookAndRoom). AreWithin (length (rows_of b.book.who b.book.events)) c.after.result.now) c.self.view_is
    (subst (AreWithin (length (rows_of i.who i.journal.events))) (sym (c.after.ensures ∙ ap (drop i.read) c.as_slice.ensures.value)) (within_rest (length (rows_of i.who i.journal.events)) i.read i.inbox.items b.within))
