use Rattle.std.proofs.Common.{◌++◌, ◌∷◌, [], ◌∙◌, take, ap, sym}
use Rattle.std.proofs.lemmas.List.{take_more}
use Rattle.inst_journal.specs.declared.event.Event.{Event}
use Rattle.inst_drill.proofs.TransferEnds.{one_more_counted}
use Rattle.inst_drill.proofs.counting.ends.Goals as goal

pub loop-event-preserved : goal.loop-event-preserved
loop-event-preserved c =
    let events = c.args.events.now in
    let i = c.loop-event.event-index in
    one_more_counted events i c.loop-event.counts.0 c.loop-event.counts.1 c.event-item.result _ c.loop-event.invariant
    (take_more events i c.event-item.result c.loop-event-test.true ∙ ap (λ (e : Event). take i events ++ e ∷ []) (sym c.event-item.is))
    c.counted_after-counts.ensures
