use Rattle.std.proofs.Common.{sym, subst}
use Rattle.inst_command.specs.declared.reply.Reply.{Reply}
use Rattle.inst_participant.specs.inner.Telling.{IsToldBy}
use Rattle.inst_participant.proofs.participant.Participant.ticket.Goals as goal

pub returns-in-Taken-clause-told : goal.returns-in-Taken-clause-told
returns-in-Taken-clause-told c = subst (λ (r : Reply). IsToldBy c.args.self.now c.args.who r c.tell.new.teller c.tell.result) (sym c.in-Taken.is) c.tell.ensures.told

pub returns-in-State-clause-told : goal.returns-in-State-clause-told
returns-in-State-clause-told c =
    subst (λ (r : Reply). IsToldBy c.args.self.now c.args.who r c.tell-in-State.new.teller c.tell-in-State.result) (sym c.in-State.is) c.tell-in-State.ensures.told
