use Rattle.std.proofs.Common.{sym, ap, ◌∙◌}
use Rattle.inst_ledger.specs.Book.{BookAndRoom}
use Rattle.inst_ledger.specs.inner.Beside.{is_funding_of, is_funding_repeat}
use Rattle.inst_ledger.proofs.FundingsByReference.{funding_found}
use Rattle.inst_ledger.proofs.ledger.Ledger.is_funding_repeat.Goals as goal

pub returns : goal.returns
returns c =
    let i = c.self.inside in
    let d = c.args.is_defunding in
    let f = c.args.funding.now in
    c.is_funding_of.ensures ∙ ap (is_funding_of d f.cents) (c.get-kept.ensures ∙ c.self.invariant.beside.referred f.reference)
    ∙ sym (funding_found i.settings.value i.who d f i.journal.events c.self.invariant.beside.sound)
    ∙ ap (λ (b : BookAndRoom). is_funding_repeat d f b.book.events) c.self.view_is
