-- A world that was closed: its journals are closed books.
use Rattle.std.proofs.Common.{◌≡◌, ℕ, ◌++◌, List, subst, arith}
use Rattle.inst_settings.specs.Settings.{HubSettings}
use Rattle.inst_command.specs.declared.step.Step.{Step}
use Rattle.inst_journal.specs.History.{History}
use Rattle.inst_journal.specs.Opened.{HasOpeningsLeft}
use Rattle.inst_model.specs.Closing.{closing}
use Rattle.inst_model.specs.Hub.{history}
use Rattle.inst_model.specs.Interleaving.{IsInterleaving}
use Rattle.inst_model.specs.Opening.{Opening, IsOpening}
use Rattle.inst_model.proofs.BooksAfterClosing.{closing_closes}
use Rattle.inst_model.proofs.ClosingExists.{there_is_a_closing}
use Rattle.inst_world.specs.HasRun.{World, HasRun, world_settings}
use Rattle.inst_world.specs.NextOpening.{AreClosedBooks, AreJournalsOf, HasClosed, books_of}
use Rattle.inst_world.proofs.JournalsOpenWhereBooksCan.{by_number, closed_books}

-- the journals are those of a world whatever it has run
abbrev pub AreItsJournals : World → List History → Type 0
AreItsJournals world journals = (O : Opening) (L : List Step) → HasRun O L world → AreJournalsOf (world_settings world) (history (world_settings world) O L) journals

pub its_closed_books : (world : World) (journals : List History) → HasClosed world → AreItsJournals world journals → AreClosedBooks (world_settings world) journals
its_closed_books world journals (O, L, steps, run) are =
    let s : HubSettings = world_settings world in
    closed_books s (history s O (closing s ++ L)) journals (closing_closes s O run.opening L (closing s) steps (there_is_a_closing s)) (are O (closing s ++ L) run)

-- where the books were opened from seldom enough their copies were
pub few_copied : (s : HubSettings) (world : World) (journals : List History) (O : Opening) (L : List Step) → world_settings world ≡ s → IsOpening s O → IsInterleaving s L
    → HasRun O (closing s ++ L) world → AreItsJournals world journals → ((p : ℕ) → HasOpeningsLeft (history s O (closing s ++ L) p)) → (p : ℕ) → HasOpeningsLeft (books_of journals p)
few_copied s world journals O L same opened steps run are few p =
    by_number s (history s O (closing s ++ L)) journals (closing_closes s O opened L (closing s) steps (there_is_a_closing s))
    (subst (λ (t : HubSettings). AreJournalsOf t (history t O (closing s ++ L)) journals) same (are O (closing s ++ L) run)) (λ K. HasOpeningsLeft K) p (few p) (omega arith)
