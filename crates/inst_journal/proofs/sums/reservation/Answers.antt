use Rattle.std.proofs.Common.{ap, sym, ◌∙◌}
use Rattle.inst_journal.specs.Sums.{amount_unbooked, reservation}
use Rattle.inst_journal.proofs.sums.reservation.Goals as goal

pub returns-in-Taken-clause-value : goal.returns-in-Taken-clause-value
returns-in-Taken-clause-value c =
    c.if_unbooked.ensures.value ∙ ap (λ o. amount_unbooked o c.in-Taken.cents) c.own_booked.ensures
    ∙ sym (ap (reservation c.args.events.now) c.in-Taken.is)
