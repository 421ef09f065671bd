use Rattle.std.proofs.Common.{subst}
use Rattle.inst_model.specs.Opening.{Opening}
use Rattle.inst_participant.specs.Together.{histories}
use Rattle.inst_order.specs.Order.{ExplainsBooks}
use Rattle.inst_close.proofs.StepsExplainCopiedBooks.{of_copies, opening_of_copies, if_found}
use Rattle.inst_close.proofs.books.Books.interleaving_from.Goals as goal

pub returns : goal.returns
returns c =
    let before = opening_of_copies c.args.before.now.books c.saturating_sub-joined.result c.in_ok-opening.opening.items c.deref-2.result.now c.deref-2.ensures.value c.in_ok-opening.ensures.ok in
    record {
      headline =
          if_found _ _
          (λ steps explains. subst (λ (O : Opening). ExplainsBooks c.args.self.now.settings O steps.items (histories c.args.self.now.books)) before
          (of_copies c.args.self.now.settings c.settings-2.result.now _ steps.items c.args.self.now.books c.in_ok-journals.journals.items c.deref-3.result.now
          c.settings-2.ensures.settings c.deref-3.ensures.value c.in_ok-journals.ensures.ok explains))
          c.interleaving_from.result c.interleaving_from.ensures.headline;
    }
