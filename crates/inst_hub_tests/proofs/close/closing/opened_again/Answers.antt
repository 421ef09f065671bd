use Rattle.inst_model.specs.Opening.{Opening, FromBooks}
use Rattle.inst_participant.proofs.OneBookSettlesOthersStay.{if_ok}
use Rattle.inst_close.specs.Closing.{IsOpenedSo, IsNextOf}
use Rattle.inst_hub_tests.proofs.close.closing.opened_again.Goals as goal

pub returns-clause-opened : goal.returns-clause-opened
returns-clause-opened c =
    if_ok c.open_next.result (λ r. IsNextOf c.args.books.now.books r.0) (λ r. (O : Opening) × IsOpenedSo O r.0)
    (λ r next. (FromBooks next.from, next.opened)) c.open_next.ensures.opened
