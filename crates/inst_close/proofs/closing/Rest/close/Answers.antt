use Rattle.std.proofs.Common.{List, subst}
use Rattle.inst_hub.specs.declared.teller.Teller.{Teller}
use Rattle.inst_hub.specs.declared.hub.Hub.{Hub}
use Rattle.inst_participant.proofs.OneBookSettlesOthersStay.{if_ok}
use Rattle.inst_close.specs.declared.closing.Rest.{Rest}
use Rattle.inst_close.specs.Closing.{IsLeftOf, IsClosedFrom, rest_of}
use Rattle.inst_close.specs.inner.Closing.{IsPartly}
use Rattle.inst_close.proofs.RemainsOfClosingHub.{if_err, books_of_parts, books_of_whole, left_partly}
use Rattle.inst_close.proofs.closing.Rest.close.Goals as goal

pub returns-in-Whole-clause-books : goal.returns-in-Whole-clause-books
returns-in-Whole-clause-books c =
    if_ok c.close.result _ (λ books. (h : Hub) (tellers : List Teller) → IsLeftOf h tellers c.args.self → IsClosedFrom h tellers books)
    (λ books closed h tellers left. closed h tellers (subst (λ (x : Rest). IsLeftOf h tellers x) c.in-Whole.is left))
    (books_of_whole c.in-Whole.hub c.in-Whole.tellers.items c.close.result c.close.ensures.books)

pub returns-in-Apart-clause-books : goal.returns-in-Apart-clause-books
returns-in-Apart-clause-books c =
    if_ok c.close_parts.result _ (λ books. (h : Hub) (tellers : List Teller) → IsLeftOf h tellers c.args.self → IsClosedFrom h tellers books)
    (λ books closed h tellers left. closed h tellers (subst (λ (x : Rest). IsLeftOf h tellers x) c.in-Apart.is left))
    (books_of_parts c.in-Apart.parts c.close_parts.result c.close_parts.ensures.settings c.close_parts.ensures.histories c.close_parts.ensures.told)

pub returns-in-Apart-clause-left : goal.returns-in-Apart-clause-left
returns-in-Apart-clause-left c =
    if_err c.close_parts.result (λ e. IsPartly c.in-Apart.parts (rest_of e)) (λ e. (h : Hub) (tellers : List Teller) → IsLeftOf h tellers c.args.self → IsLeftOf h tellers (rest_of e))
    (λ e later h tellers left. left_partly h tellers c.in-Apart.parts (rest_of e) (subst (λ (x : Rest). IsLeftOf h tellers x) c.in-Apart.is left) later)
    c.close_parts.ensures.left
