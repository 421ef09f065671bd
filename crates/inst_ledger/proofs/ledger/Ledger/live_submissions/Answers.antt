use Rattle.std.proofs.Common.{length, ap, ◌∙◌}
use Rattle.std.proofs.lemmas.List.{length-map}
use Rattle.std.proofs.lemmas.List.Sums.{length-filter}
use Rattle.inst_journal.specs.Opened.{carried, takes_live, live_taken, live_submissions}
use Rattle.inst_ledger.specs.Book.{BookAndRoom}
use Rattle.inst_ledger.specs.Right.{id_of}
use Rattle.inst_ledger.proofs.ledger.Ledger.live_submissions.Goals as goal

pub returns : goal.returns
returns c =
    let i = c.self.inside in
    c.live.ensures ∙ ap length c.self.invariant.beside.right.own ∙ length-map (live_taken i.who i.journal.events) id_of
    ∙ length-filter (takes_live i.who (carried i.journal.events)) i.journal.events ∙ ap (λ (b : BookAndRoom). live_submissions b.book.who b.book.events) c.self.view_is
