use Rattle.std.proofs.Common.{◌≡◌, ◌∙◌, sym, ap, Some}
use Rattle.std.specs.Prelude.{slice_get}
use Rattle.std.proofs.lemmas.Option.{slice_get-get_or}
use Rattle.inst_drill.proofs.counting.contradicted.Goals as goal
use Rattle.inst_drill.proofs.counting.contradicted.Goals.{then-contradicts, else-contradicts}

pub loop-ticket-preserved : goal.loop-ticket-preserved
loop-ticket-preserved c = λ none.
    let index = c.loop-ticket.ticket-index in
    let item = c.loop-ticket-item.result in
    let at : slice_get c.args.states.now index ≡ Some item = slice_get-get_or c.args.states.now index item c.loop-ticket-test.true ∙ ap (λ x. Some x) (sym c.loop-ticket-item.is) in
    elim c.if-contradicts.branch [
      | then-contradicts w ↦ absurd (none index item at (c.contradicts.ensures.yes w.if-contradicts.true))
      | else-contradicts w ↦ w.count-is ∙ c.loop-ticket.invariant none
    ]
