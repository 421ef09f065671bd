use Rattle.std.proofs.Common.{ap, sym, ◌∙◌}
use Rattle.inst_journal.specs.Sums.{if_accepted, credit}
use Rattle.inst_journal.proofs.sums.credit.Goals as goal

pub returns-in-Forwarded-clause-value : goal.returns-in-Forwarded-clause-value
returns-in-Forwarded-clause-value c =
    c.if_accepted.ensures.value ∙ ap (λ o. if_accepted o c.in-Forwarded.cents) c.booked.ensures
    ∙ sym (ap (credit c.args.events.now) c.in-Forwarded.is)
