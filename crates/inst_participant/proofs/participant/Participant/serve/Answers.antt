use Rattle.std.proofs.Common.{sym, subst}
use Rattle.inst_cell.specs.Held.{settings_of, knows, has_role, stood, Stays}
use Rattle.inst_cell.specs.Seen.{sight_knows}
use Rattle.inst_slot.specs.Asking.{Applies}
use Rattle.inst_slot.specs.Book.{Book}
use Rattle.inst_participant.specs.Answers.{Answered, IsTicket}
use Rattle.inst_participant.proofs.HistoryAfterServedAsk.{its_ticket}
use Rattle.inst_participant.proofs.participant.Participant.serve.Goals as goal

-- the board knew as much before the teller was told
pub returns-clause-answers : goal.returns-clause-answers
returns-clause-answers c =
    let x = c.args.self.now in
    let ask = c.args.ask.now in
    let reply = c.in_ok-reply.reply in
    let same = sym c.ticket-ticket.ensures.same in
    let served = c.in_ok-reply.ensures.serves in
    let answered = c.in_ok-reply.ensures.answered in record {
      serves = record {
        result = served.result;
        board = served.board;
        passes_on = served.passes_on;
        applies = subst (λ (b : Book). Applies (settings_of x.board).margin knows has_role stood Stays x.board x.slot ask served.result served.board b) same served.applies;
        same = λ f. (λ k. (served.same f).0 ((c.ticket-ticket.ensures.knows f).0 k), λ k. (c.ticket-ticket.ensures.knows f).1 ((served.same f).1 k));
      };
      answered = subst (λ (b : Book). Answered x.slot.settings x.slot.who x.slot.events ask reply b.events) same answered;
      ticket = subst (λ (b : Book). IsTicket (sight_knows c.ticket-ticket.new.teller) x.slot.settings x.slot.who ask.command b.events reply c.ticket-ticket.result) same
          (its_ticket x c.answer.new.self c.ticket-ticket.new.teller ask reply c.ticket-ticket.result c.requires.may c.answer.ensures.stays answered c.ticket-ticket.ensures.told);
    }
