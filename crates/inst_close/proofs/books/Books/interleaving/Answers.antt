use Rattle.inst_model.specs.Opening.Opening.{First}
use Rattle.inst_close.proofs.StepsExplainCopiedBooks.{of_copies, if_found}
use Rattle.inst_close.proofs.books.Books.interleaving.Goals as goal

pub returns : goal.returns
returns c = record {
  headline =
      if_found _ _
      (λ steps. of_copies c.args.self.now.settings c.settings.result.now First steps.items c.args.self.now.books c.in_ok-journals.journals.items c.deref.result.now
      c.settings.ensures.settings c.deref.ensures.value c.in_ok-journals.ensures.ok)
      c.interleaving.result c.interleaving.ensures.headline;
}
