-- Opening the slots of a world again, one after another over an empty board, and adopting each
-- carried transfer.
use Rattle.std.specs.Prelude.{◌≡◌, ◌↔◌, ◌⊎◌, ℕ, zero, suc, ◌<◌, ◌≤◌, true, is_some, List, [], ◌∷◌}
use Rattle.std.specs.Prelude.{◌++◌, length, slice_get, Contains, Some}
use Rattle.inst_settings.specs.Settings.{HubSettings, participants, is_participant}
use Rattle.inst_terms.specs.declared.terms.Terms.{Terms}
use Rattle.inst_command.specs.declared.place.Place.{Place}
use Rattle.inst_board.specs.declared.about.Fact.{Fact}
use Rattle.inst_board.specs.Standing.{pending}
use Rattle.inst_board.specs.Plain.{Contents, standing_at, plain_knows}
use Rattle.inst_board.specs.Laws.{SayTheSame}
use Rattle.inst_journal.specs.declared.event.Event.{Event}
use Rattle.inst_journal.specs.declared.event.Event.TheVariants.{Opened}
use Rattle.inst_journal.specs.Opened.{live_taken}
use Rattle.inst_slot.specs.declared.arrival.Arrival.{Arrival}
use Rattle.inst_slot.specs.Book.{Book, place_at, terms_to}
use Rattle.inst_slot.specs.LawfulBoard.{IsLawfulBoard}
use Rattle.inst_slot.specs.Opening.{opened_again, MayOpenAgain, IsOfTakenSubmission}
use Rattle.inst_world.specs.HasRun.{World, world_settings, journal_of}

-- The books of the first n participants, opened again.
abbrev pub books_again : HubSettings → (ℕ → List Event) → ℕ → List Book
books_again s J zero = []
books_again s J (suc n) = books_again s J n ++ opened_again s n (J n) ∷ []

-- The fact is part of the opening of a live transfer of one of the first n participants.
pub record IsOpenedBelow (s : HubSettings) (J : ℕ → List Event) (n : ℕ) (f : Fact) : Type 0 where
  pub owner : ℕ
  pub below : owner < n
  pub opening : IsOfTakenSubmission s owner (live_taken owner (J owner ++ Opened ∷ [])) f

-- The books of the first n participants are opened again, over a board that was empty.
--
-- - known: the board has their live transfers, pending, and nothing else
-- - lawful: the books are lawful over it
-- - next: those of the others can be opened over it
pub record AreOpenedAgain (s : HubSettings) (J : ℕ →
    List Event) (n : ℕ) (world : World) : Type 0 where
  pub settings_are : world_settings world ≡ s
  pub books_are : world.books ≡ books_again s J n
  pub known : (f : Fact) → plain_knows world.board f ↔ IsOpenedBelow s J n f
  pub lawful : (p : ℕ) → p < n →
      IsLawfulBoard (λ b. b.settings) plain_knows (λ b q.
      Unit {0}) world.board (opened_again s p (J p))
  pub next : (p : ℕ) → n ≤ p →
      MayOpenAgain (λ b. b.settings) plain_knows (λ b q. Unit {0}) world.board s p

-- The book of participant p over this board. Some carried transfers may not be adopted yet.
pub record IsCarrying (s : HubSettings) (board : Contents) (p : ℕ) (book : Book) : Type 0 where
  pub settings_are : book.settings ≡ s
  pub who_is : book.who ≡ p
  pub lawful : IsLawfulBoard (λ b. b.settings) plain_knows (λ b q. Unit {0}) board book

-- One book for each participant, and each pending transfer is for a participant.
pub record IsCarryingWorld (world : World) : Type 0 where
  pub one_each : length world.books ≡ participants (world_settings world)
  pub member : (p : ℕ) (book : Book) → slice_get world.books p ≡ Some book →
      IsCarrying (world_settings world) world.board p book
  pub addressed : (k : Place) (t : Terms) (d : ℕ) → standing_at world.board k ≡ pending t d →
      is_participant (world_settings world) t.to ≡ true

-- The place is before this one, by its owner's number and its index.
abbrev pub StandsBefore : ℕ → ℕ → Place → Type 0
StandsBefore owner index k = (k.owner < owner) ⊎ ((k.owner ≡ owner) × (k.index < index))

-- Each carried transfer that is pending before this place has been adopted.
abbrev pub HaveFoundBefore : ℕ → ℕ → World → Type 0
HaveFoundBefore owner index world = (p : ℕ) (book : Book) → slice_get world.books p ≡ Some book →
    (x : Arrival) → Contains book.arrivals x → (i : ℕ) →
    StandsBefore owner index (place_at x.entry.from i) →
    standing_at world.board (place_at x.entry.from i)
    ≡ pending (terms_to p x.entry.cents x.entry.id) x.entry.deadline →
    is_some x.index ≡ true

-- From the first world to the second transfers were adopted, and nothing else changed.
pub record OnlyFinds (old new : World) : Type 0 where
  pub settings_are : world_settings new ≡ world_settings old
  pub histories : (p : ℕ) → journal_of new p ≡ journal_of old p
  pub board_says : (place : Place) →
      SayTheSame (standing_at new.board place) (standing_at old.board place)
