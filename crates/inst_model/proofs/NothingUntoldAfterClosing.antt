-- After a closing nothing is untold.
use Rattle.std.proofs.Common.{◌≡◌, ℕ, List, ◌++◌, ap, ◌∙◌}
use Rattle.inst_settings.specs.Settings.{HubSettings, participants}
use Rattle.inst_command.specs.declared.step.Step.{Step}
use Rattle.inst_journal.specs.Booked.{booked}
use Rattle.inst_model.specs.Closing.{ClosingSettlesUp}
use Rattle.inst_model.specs.Opening.{Opening, IsOpening}
use Rattle.inst_model.specs.Hub.{outcome, history}
use Rattle.inst_model.specs.Transfer.{Transfer, transfers}
use Rattle.inst_model.specs.Untold.{if_untold, untold_by}
use Rattle.inst_model.proofs.OpeningBeginsFromBooks.{none_untold, zeros_below}
use Rattle.inst_model.proofs.OutcomesOverOpenings.{books_say}
use Rattle.inst_model.proofs.BooksAfterClosing.{closing_closes}
use Rattle.inst_model.proofs.ClosedBooksSumToNet.{closed_books_sum_to_the_net}
use Rattle.inst_model.proofs.Sums.{sum_by_zeros, each_of}
use Rattle.inst_model.proofs.EveryoneIsToldAfterClosing.{AllTold, all_told}

told_by : (s : HubSettings) (O : Opening) → IsOpening s O → (C : List Step) → AllTold s O C → (p : ℕ) → untold_by s O C p ≡ 0
told_by s O opened C told p =
    let weight : Transfer → ℕ = λ x. if_untold (outcome s O C p x.id) (booked p x.id (history s O C p)) x.cents in
    sum_by_zeros weight (transfers (history s O C p)) (each_of (λ (x : Transfer). weight x ≡ 0) (transfers (history s O C p))
    (λ x. ap (λ o. if_untold (outcome s O C p x.id) o x.cents) (books_say s O opened C told p x.id) ∙ none_untold (outcome s O C p x.id) x.cents))

pub closing_settles_up : ClosingSettlesUp
closing_settles_up s O opened L M steps closes =
    let told : AllTold s O (M ++ L) = all_told s O opened L M steps closes in
    let closed = closing_closes s O opened L M steps closes in
    record {
      all_told = zeros_below (participants s) (untold_by s O (M ++ L)) (told_by s O opened (M ++ L) told);
      sum = closed_books_sum_to_the_net s (history s O (M ++ L)) closed.sound closed.closed;
    }
