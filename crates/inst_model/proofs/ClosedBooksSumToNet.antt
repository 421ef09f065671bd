-- Books that are sound and closed sum to the net funding.
use Rattle.std.proofs.Common.{is_some, ap}
use Rattle.inst_model.specs.ClosedBooks.{ClosedBooksSumToTheNet}
use Rattle.inst_model.proofs.BookingsInClosedBooks.{own, originator_booked, beneficiary_booked}
use Rattle.inst_model.proofs.HistoriesAgreeWithOutcomes.{Agree, nothing_untold}
use Rattle.inst_model.proofs.ConservationOfMoney.{all_told_conserved}
use Rattle.inst_model.proofs.MirrorOfFittingHistories.{fitting_together}

pub closed_books_sum_to_the_net : ClosedBooksSumToTheNet
closed_books_sum_to_the_net s J sound closed =
    let a : Agree s J (own J) = record {
      all = fitting_together s J sound closed.fit;
      booked_is = originator_booked s J sound closed;
      accepted_is_booked = beneficiary_booked s J sound closed;
    } in
    all_told_conserved s J (own J) a (λ p. nothing_untold J (own J) p (λ id o e. ap is_some e))
