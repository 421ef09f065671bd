-- From one opening to the next, and along all of them.
use Rattle.std.proofs.Common.{◌≡◌, ℕ, zero, ◌≤◌, cond, List, [], ◌∷◌, ◌++◌, length, Option, Some, None, refl, sym, ap, ◌∙◌, append-nil, arith}
use Rattle.inst_settings.specs.Settings.{HubSettings}
use Rattle.inst_command.specs.declared.outcome.Outcome.{Outcome}
use Rattle.inst_command.specs.declared.step.Step.{Step}
use Rattle.inst_journal.specs.declared.event.Event.TheVariants.{Opened}
use Rattle.inst_journal.specs.Booked.{booked}
use Rattle.inst_journal.specs.Opened.{is_opening, openings}
use Rattle.inst_journal.proofs.CountsOfEvents.{count_push}
use Rattle.inst_journal.proofs.EffectsOfAnOpening.{same_keys}
use Rattle.inst_model.specs.Closing.{closing}
use Rattle.inst_model.specs.NextOpening.{next_opening, opening_after, AreInterleavings, ClosedBooksCanOpen, TheNextBeginsWithTheOutcomes, AnOutcomeStaysOverTheNext, AHubOpensAgain, AnOutcomeStaysForGood}
use Rattle.inst_model.specs.Opening.{Opening, IsOpening, beginning}
use Rattle.inst_model.specs.Hub.{outcome, history}
use Rattle.inst_model.proofs.BooksAfterClosing.{closing_closes}
use Rattle.inst_model.proofs.Histories.{persists_step_within}
use Rattle.inst_model.proofs.Outcomes.{booked_outcome, outcome_stays}
use Rattle.inst_model.proofs.ClosingExists.{there_is_a_closing}
use Rattle.inst_model.proofs.StepsThatOnlyTell.{same_outcomes}
use Rattle.inst_model.proofs.EveryoneIsToldAfterClosing.{AllTold, all_told}
use Rattle.inst_journal.specs.declared.opened.TheConstants.{MOST_OPENINGS}

-- no step opens a hub
same_openings : (s : HubSettings) (O : Opening) (L : List Step) (p : ℕ) → openings (history s O L p) ≡ openings (beginning O p)
same_openings s O [] p = refl
same_openings s O (step ∷ past) p =
    persists_step_within s O step past p (λ K. openings K ≡ openings (beginning O p))
    (λ K event other so_far. let none : cond (is_opening event) 1 0 ≡ zero = ap (λ b. cond b 1 0) other in omega (arith, count_push is_opening K event, none, so_far)) (same_openings s O past p)

pub closed_books_can_open : ClosedBooksCanOpen
closed_books_can_open s O opened L M steps closes few =
    let closed = closing_closes s O opened L M steps closes in
    record { sound = closed.sound; closed = closed.closed; few = λ p. omega (arith, same_openings s O (M ++ L) p, few p) }

-- where everyone is told, the originator has booked what is decided and nothing else
pub books_say : (s : HubSettings) (O : Opening) → IsOpening s O → (C : List Step) → AllTold s O C → (p : ℕ) (id : List ℕ) → booked p id (history s O C p) ≡ outcome s O C p id
books_say s O opened C told p id = go (booked p id (history s O C p)) (outcome s O C p id) refl refl
  where
    go : (here there : Option Outcome) → booked p id (history s O C p) ≡ here → outcome s O C p id ≡ there → here ≡ there
    go None None is was = refl
    go (Some o) there is was = sym (booked_outcome s O opened C p p id o is) ∙ was
    go None (Some o) is was = sym is ∙ told.originator p id o was

pub the_next_begins_with_the_outcomes : TheNextBeginsWithTheOutcomes
the_next_begins_with_the_outcomes s O opened L M steps closes p id =
    (same_keys (history s O (M ++ L) p)).booked p id ∙ books_say s O opened (M ++ L) (all_told s O opened L M steps closes) p id ∙ same_outcomes s O L M closes.only_tells p id

pub an_outcome_stays_over_the_next : AnOutcomeStaysOverTheNext
an_outcome_stays_over_the_next s O opened L M steps closes p id o is K =
    let P : Opening = next_opening s O (M ++ L) in
    sym (ap (λ N. outcome s P N p id) (append-nil K)) ∙ outcome_stays s P K [] p id o (the_next_begins_with_the_outcomes s O opened L M steps closes p id ∙ is)

-- an opening after so many others
record Opens (s : HubSettings) (O : Opening) (count : ℕ) : Type 0 where
  opened : IsOpening s O
  counted : (p : ℕ) → openings (beginning O p) ≡ count

opens_again : (s : HubSettings) (Ls : List (List Step)) → AreInterleavings s Ls → length Ls ≤ MOST_OPENINGS → Opens s (opening_after s Ls) (length Ls)
opens_again s [] steps few = record { opened = tt; counted = λ p. refl }
opens_again s (L ∷ before) steps few =
    let O : Opening = opening_after s before in
    let was : Opens s O (length before) = opens_again s before steps.1 (omega (arith, few)) in
    record {
      opened = closed_books_can_open s O was.opened L (closing s) steps.0 (there_is_a_closing s) (λ p. omega (arith, was.counted p, few));
      counted = λ p. omega (arith, count_push is_opening (history s O (closing s ++ L) p) Opened, same_openings s O (closing s ++ L) p, was.counted p);
    }

pub a_hub_opens_again : AHubOpensAgain
a_hub_opens_again s Ls steps few = (opens_again s Ls steps few).opened

pub an_outcome_stays_for_good : AnOutcomeStaysForGood
an_outcome_stays_for_good s [] before L K p id o steps few is =
    an_outcome_stays_over_the_next s (opening_after s before) (opens_again s before steps.1 (omega (arith, few))).opened L (closing s) steps.0 (there_is_a_closing s) p id o is K
an_outcome_stays_for_good s (last ∷ later) before L K p id o steps few is =
    let all : List (List Step) = later ++ (L ∷ before) in
    let shorter : length all ≤ MOST_OPENINGS = omega (arith, few) in
    an_outcome_stays_over_the_next s (opening_after s all) (opens_again s all steps.1 shorter).opened last (closing s) steps.0 (there_is_a_closing s) p id o
    (an_outcome_stays_for_good s later before L last p id o steps.1 shorter is) K
