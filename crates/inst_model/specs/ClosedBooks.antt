-- The positions of books that are sound and closed, however they came about, sum to the net
-- funding. A promise of this hub for the books of a closed hub.
use Rattle.std.specs.Prelude.{◌≡◌, ℕ, pos, List}
use Rattle.inst_settings.specs.Settings.{HubSettings}
use Rattle.inst_journal.specs.declared.event.Event.{Event}
use Rattle.inst_journal.specs.Sums.{net}
use Rattle.inst_journal.specs.Money.{position}
use Rattle.inst_journal.specs.Sound.{IsSound}
use Rattle.inst_model.specs.Fit.{BooksAreClosed}
use Rattle.inst_model.specs.Untold.{sum_over_participants, signed_total}

abbrev pub ClosedBooksSumToTheNet : Type 0
ClosedBooksSumToTheNet =
    (s : HubSettings) (J : ℕ → List Event) → ((p : ℕ) → IsSound s p (J p)) → BooksAreClosed s J →
    pos (sum_over_participants s (λ p. position (J p))) ≡ signed_total s (λ p. net (J p))
