use Rattle.std.proofs.Common.{◌≡◌, ◌∙◌, sym, ap, Option, ℕ, Some, None}
use Rattle.inst_journal.specs.Booked.{first_some}
use Rattle.inst_statement.specs.inner.Movement.{came, sent, movement_of_accepted}
use Rattle.inst_statement.proofs.passed.PassedTransfers.accepted.Goals as goal

-- the movement by what was found
by_found : (from : ℕ) (came_is found : Option ℕ) (sent_is terms : Option (ℕ × ℕ)) → found ≡ came_is → terms ≡ sent_is → movement_of_accepted from found terms ≡ movement_of_accepted from came_is sent_is
by_found from came_is found sent_is terms same_came same_sent = ap (λ o. movement_of_accepted from o terms) same_came ∙ ap (movement_of_accepted from came_is) same_sent

pub returns-in-Some : goal.returns-in-Some
returns-in-Some c = λ front kept.
    sym (ap (λ o. movement_of_accepted c.args.from o (first_some (sent c.args.id.now) front)) (sym (c.came.ensures front kept) ∙ c.in-Some.is))

pub returns-in_err-to : goal.returns-in_err-to
returns-in_err-to c = λ front kept.
    c.from_residual.ensures
    ∙ by_found c.args.from (first_some (came c.args.from c.args.id.now) front) None (first_some (sent c.args.id.now) front) None
    (sym c.in_default.is ∙ c.came.ensures front kept) (sym c.in_err-to.was ∙ c.sent.ensures front kept)

pub returns : goal.returns
returns c = λ front kept.
    by_found c.args.from (first_some (came c.args.from c.args.id.now) front) None (first_some (sent c.args.id.now) front) (Some (c.in_ok-to.to, c.in_ok-to.cents))
    (sym c.in_default.is ∙ c.came.ensures front kept) (sym c.in_ok-to.was ∙ c.sent.ensures front kept)
