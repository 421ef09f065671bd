use Rattle.std.proofs.Common.{rules, ⊎_elim, subst}
use Rattle.inst_cell.specs.declared.shared_board.SharedBoard.{SharedBoard}
use Rattle.inst_cell.specs.Held.{settings_of, knows, has_role, stood, Stays, roles_same}
use Rattle.inst_board.specs.Learning.{IsAnswer, KnowTheSame}
use Rattle.inst_slot.proofs.ForwardedTransfersHavePlaces.{asks_adopted}
use Rattle.inst_participant.specs.Answers.{Answered}
use Rattle.inst_participant.proofs.AnswerByHistoryAlone.{KnowsOwn, answered}
use Rattle.inst_participant.proofs.HistoryAfterServedAsk.{grows}
use Rattle.inst_participant.proofs.AnswerWithRefusalsTold.{told_answered, told_left}
use Rattle.inst_participant.proofs.participant.Participant.answer.Goals as goal

-- on shared words only a time-out may have stood that the beneficiary doesn't know
shared_own : KnowsOwn knows has_role stood Stays
shared_own = record {
  stood_known = λ b k t o answer before terms role. ⊎_elim (λ known. known) (λ out. absurd (subst IsAnswer out answer)) (before t terms role);
  role_stays = λ b c p stays role. (roles_same b c p stays).0 role;
}

pub apply-answer-requires-clause-adopted : goal.apply-answer-requires-clause-adopted
apply-answer-requires-clause-adopted c =
    asks_adopted settings_of knows has_role c.args.self.now.board c.args.self.now.slot c.args.ask.now.command c.requires.may.ready.lawful c.requires.may.ready.adopted

pub returns-clause-stays : goal.returns-clause-stays
returns-clause-stays c = record {
  ready = search rules;
  later = search rules;
  grows = grows (settings_of c.args.self.now.board).margin knows has_role stood Stays c.args.self.now.board c.apply-answer.new.board c.args.self.now.slot c.args.ask.now c.apply-answer.result c.apply-answer.new.self c.apply-answer.ensures.applies.applies;
  sound = c.apply-answer.ensures.applies.sound;
}

pub returns-clause-answered : goal.returns-clause-answered
returns-clause-answered c =
    told_answered c.apply-answer.result c.refusals_told.result
    (λ reply. Answered c.args.self.now.slot.settings c.args.self.now.slot.who c.args.self.now.slot.events c.args.ask.now reply c.apply-answer.new.self.events) c.refusals_told.ensures
    (answered settings_of knows has_role stood Stays shared_own c.args.self.now.board c.apply-answer.new.board c.args.self.now.slot c.args.ask.now c.apply-answer.result c.apply-answer.new.self
    c.requires.may.ready.lawful c.apply-answer.ensures.applies.sound c.apply-answer.ensures.applies.decides c.apply-answer.ensures.applies.applies)

unchanged : (b : SharedBoard) → KnowTheSame knows b b
unchanged b f = (λ k. k, λ k. k)

pub returns-clause-serves : goal.returns-clause-serves
returns-clause-serves c = record {
  result = c.apply-answer.result;
  board = c.apply-answer.new.board;
  passes_on = c.refusals_told.ensures;
  applies = c.apply-answer.ensures.applies.applies;
  same = unchanged c.apply-answer.new.board;
}

pub returns-clause-err : goal.returns-clause-err
returns-clause-err c = told_left c.apply-answer.result c.refusals_told.result _ c.refusals_told.ensures c.apply-answer.ensures.applies.left
