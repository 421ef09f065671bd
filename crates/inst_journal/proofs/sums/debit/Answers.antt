use Rattle.std.proofs.Common.{ap, sym, ◌∙◌}
use Rattle.inst_journal.specs.Sums.{if_accepted, debit}
use Rattle.inst_journal.proofs.sums.debit.Goals as goal

pub returns-in-Taken-clause-value : goal.returns-in-Taken-clause-value
returns-in-Taken-clause-value c =
    c.if_accepted.ensures.value ∙ ap (λ o. if_accepted o c.in-Taken.cents) c.own_booked.ensures
    ∙ sym (ap (debit c.args.events.now) c.in-Taken.is)
