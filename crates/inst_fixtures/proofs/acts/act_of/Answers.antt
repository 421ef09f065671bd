use Rattle.inst_board.specs.Plain.{Contents, plain_knows}
use Rattle.inst_fixtures.proofs.SlotsOverOneBoard.{lawful_are, others_are}
use Rattle.inst_fixtures.proofs.acts.act_of.Goals.{in-Deliver+in_ok-is_new-in-Deliver, in-Learn+in_ok-is_new-in-Learn, in-Adopt, in-Expire+in_ok-is_new-in-Expire}
use Rattle.inst_fixtures.proofs.acts.act_of.Goals as goal

pub returns-clause-lawful : goal.returns-clause-lawful
returns-clause-lawful c = elim c.match-act.branch [
  | in-Deliver+in_ok-is_new-in-Deliver w ↦ lawful_are (λ (b : Contents). b.settings) plain_knows (λ _ _. Unit {0}) w.slot-is w.board-is w.deliver_to.ensures.lawful
  | in-Learn+in_ok-is_new-in-Learn w ↦ lawful_are (λ (b : Contents). b.settings) plain_knows (λ _ _. Unit {0}) w.slot-is w.board-is w.learn.ensures.law.lawful
  | in-Adopt w ↦ lawful_are (λ (b : Contents). b.settings) plain_knows (λ _ _. Unit {0}) w.slot-is w.board-is w.adopt-is_new.ensures.law.lawful
  | in-Expire+in_ok-is_new-in-Expire w ↦ lawful_are (λ (b : Contents). b.settings) plain_knows (λ _ _. Unit {0}) w.slot-is w.board-is w.expire.ensures.law.lawful
]

pub returns-clause-others : goal.returns-clause-others
returns-clause-others c = elim c.match-act.branch [
  | in-Deliver+in_ok-is_new-in-Deliver w ↦ others_are (λ (b : Contents). b.settings) plain_knows (λ _ _. Unit {0}) w.board-is w.deliver_to.ensures.others
  | in-Learn+in_ok-is_new-in-Learn w ↦ others_are (λ (b : Contents). b.settings) plain_knows (λ _ _. Unit {0}) w.board-is w.learn.ensures.law.others
  | in-Adopt w ↦ others_are (λ (b : Contents). b.settings) plain_knows (λ _ _. Unit {0}) w.board-is w.adopt-is_new.ensures.law.others
  | in-Expire+in_ok-is_new-in-Expire w ↦ others_are (λ (b : Contents). b.settings) plain_knows (λ _ _. Unit {0}) w.board-is w.expire.ensures.law.others
]
