-- From one opening to the next: the books that a closing leaves can be opened again, and a decided
-- outcome stays through each later opening. A promise of this hub.
use Rattle.std.specs.Prelude.{◌≡◌, ℕ, ◌≤◌, List, [], ◌∷◌, ◌++◌, length, Some}
use Rattle.std.specs.List.{AllByRecursion}
use Rattle.inst_settings.specs.Settings.{HubSettings}
use Rattle.inst_command.specs.declared.outcome.Outcome.{Outcome}
use Rattle.inst_command.specs.declared.step.Step.{Step}
use Rattle.inst_journal.specs.Opened.{HasOpeningsLeft}
use Rattle.inst_model.specs.Interleaving.{IsInterleaving}
use Rattle.inst_model.specs.Opening.{Opening, IsOpening, beginning}
use Rattle.inst_model.specs.Opening.Opening.{First, FromBooks}
use Rattle.inst_model.specs.Closing.{IsClosing, closing}
use Rattle.inst_model.specs.Hub.{outcome, history}
use Rattle.inst_journal.specs.declared.opened.TheConstants.{MOST_OPENINGS}

-- The opening from the books of a hub after these steps, the last of which close it.
abbrev pub next_opening : HubSettings → Opening → List Step → Opening
next_opening s O L = FromBooks (history s O L)

-- A closed hub can be opened again if its books had an opening left.
abbrev pub ClosedBooksCanOpen : Type 0
ClosedBooksCanOpen =
    (s : HubSettings) (O : Opening) → IsOpening s O → (L M : List Step) → IsInterleaving s L →
    IsClosing s M → ((p : ℕ) → HasOpeningsLeft (beginning O p)) →
    IsOpening s (next_opening s O (M ++ L))

-- The next opening begins with exactly the outcomes of this one.
abbrev pub TheNextBeginsWithTheOutcomes : Type 0
TheNextBeginsWithTheOutcomes =
    (s : HubSettings) (O : Opening) → IsOpening s O → (L M : List Step) → IsInterleaving s L →
    IsClosing s M → (p : ℕ) (id : List ℕ) →
    outcome s (next_opening s O (M ++ L)) [] p id ≡ outcome s O L p id

-- An outcome is the same after every list of steps of the next opening.
abbrev pub AnOutcomeStaysOverTheNext : Type 0
AnOutcomeStaysOverTheNext =
    (s : HubSettings) (O : Opening) → IsOpening s O → (L M : List Step) → IsInterleaving s L →
    IsClosing s M → (p : ℕ) (id : List ℕ) (o : Outcome) → outcome s O L p id ≡ Some o →
    (K : List Step) →
    outcome s (next_opening s O (M ++ L)) K p id ≡ Some o

-- The opening after these others, each with its steps and then closed, newest first, from the very
-- first on.
abbrev pub opening_after : HubSettings → List (List Step) → Opening
opening_after s [] = First
opening_after s (L ∷ before) = next_opening s (opening_after s before) (closing s ++ L)

-- Each list of steps is an interleaving.
abbrev pub AreInterleavings : HubSettings → List (List Step) → Type 0
AreInterleavings s Ls = AllByRecursion (λ L. IsInterleaving s L) Ls

-- A hub can be opened from its books 500 times.
abbrev pub AHubOpensAgain : Type 0
AHubOpensAgain =
    (s : HubSettings) (Ls : List (List Step)) → AreInterleavings s Ls → length Ls ≤ MOST_OPENINGS →
    IsOpening s (opening_after s Ls)

-- An outcome stays through all later openings.
abbrev pub AnOutcomeStaysForGood : Type 0
AnOutcomeStaysForGood = (s : HubSettings) (later before : List (List Step)) (L K : List Step) →
    (p : ℕ) (id : List ℕ) (o : Outcome) →
    AreInterleavings s (later ++ (L ∷ before)) → length (later ++ (L ∷ before)) ≤ MOST_OPENINGS →
    outcome s (opening_after s before) L p id ≡ Some o →
    outcome s (opening_after s (later ++ (L ∷ before))) K p id ≡ Some o
