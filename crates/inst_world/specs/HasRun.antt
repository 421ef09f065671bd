-- The relation between a world, which is a list of slots over one board, and the steps that it has
-- run since an opening. Its histories are the model's, and its board has at each place the model's
-- live transfer with its outcome, and nothing else. Holding all slots in one thread is a choice of
-- this hub.
use Rattle.std.specs.Prelude.{◌≡◌, ◌⊎◌, ℕ, ◌<◌, true, List, ◌∷◌, length, slice_get, Option, Some}
use Rattle.std.specs.Prelude.{None}
use Rattle.inst_settings.specs.Settings.{HubSettings, participants}
use Rattle.inst_settings.specs.Lawful.{IsSettings}
use Rattle.inst_command.specs.declared.outcome.Outcome.{Outcome}
use Rattle.inst_command.specs.declared.reply.Answer.{Answer}
use Rattle.inst_command.specs.declared.reply.Answer.TheVariants.{New}
use Rattle.inst_command.specs.declared.step.Step.{Step}
use Rattle.inst_command.specs.declared.step.Step.TheVariants.{Ask, Deliver, Learn, Expire}
use Rattle.inst_journal.specs.declared.event.Event.{Event}
use Rattle.inst_journal.specs.Reply.{copies}
use Rattle.inst_terms.specs.declared.terms.Terms.{Terms}
use Rattle.inst_command.specs.declared.place.Place.{Place}
use Rattle.inst_board.specs.Standing.{Standing, unused, pending, decided}
use Rattle.inst_board.specs.Plain.{Contents, standing_at, plain_knows}
use Rattle.inst_board.specs.Laws.{SayTheSame}
use Rattle.inst_model.specs.Opening.{Opening, IsOpening}
use Rattle.inst_model.specs.Interleaving.{IsInterleaving}
use Rattle.inst_model.specs.Transfer.{Transfer, deadline, at_place}
use Rattle.inst_model.specs.Hub.{outcome, history}
use Rattle.inst_model.specs.Trace.{answer}
use Rattle.inst_slot.specs.Book.{Book, events_of, place_at, terms_to}
use Rattle.inst_slot.specs.LawfulBoard.{IsLawfulBoard, AllAreAdopted}

-- The contract's view of a world: the books of its participants by number, and its board.
pub record World : Type 0 where
  pub books : List Book
  pub board : Contents

-- The journal of a participant.
abbrev pub journal_of : World → ℕ → List Event
journal_of world p = events_of (slice_get world.books p)

-- The settings of the world's hub.
abbrev pub world_settings : World → HubSettings
world_settings world = world.board.settings

-- The book of participant p over this board. Each live transfer that was forwarded to it has its
-- place.
pub record IsMember (s : HubSettings) (board : Contents) (p : ℕ) (book : Book) : Type 0 where
  pub settings_are : book.settings ≡ s
  pub who_is : book.who ≡ p
  pub lawful : IsLawfulBoard (λ b. b.settings) plain_knows (λ b q. Unit {0}) board book
  pub adopted : AllAreAdopted book

-- One book for each participant, over one board.
pub record IsWorld (world : World) : Type 0 where
  pub one_each : length world.books ≡ participants (world_settings world)
  pub member : (p : ℕ) (book : Book) → slice_get world.books p ≡ Some book →
      IsMember (world_settings world) world.board p book

-- A place with these terms and this deadline: pending without an outcome, else decided with it, at
-- some clock reading.
abbrev pub StandsWith : Terms → ℕ → Option Outcome → Standing → Type 0
StandsWith terms d None p = p ≡ pending terms d
StandsWith terms d (Some o) p = (moment : ℕ) × (p ≡ decided terms d o moment)

-- The terms of a transfer.
abbrev pub terms_of : Transfer → Terms
terms_of x = terms_to x.to x.cents x.id

-- A place has this transfer of an originator, with its outcome; without a transfer it is unused.
abbrev pub StandsFor : HubSettings → (List ℕ → Option Outcome) → Option Transfer → Standing → Type 0
StandsFor s outcomes None p = p ≡ unused
StandsFor s outcomes (Some x) p = StandsWith (terms_of x) (deadline s x) (outcomes x.id) p

-- Each place of the board has the live transfer that the model has there after these steps.
abbrev pub IsBoardOf : HubSettings → Opening → List Step → Contents → Type 0
IsBoardOf s O L board = (p index : ℕ) →
    StandsFor s (outcome s O L p) (at_place p (history s O L p) index)
    (standing_at board (place_at p index))

-- The world has run these steps since this opening.
--
-- - histories: each book is the participant's history
-- - board: the board has the outcomes
pub record HasRun (O : Opening) (L : List Step) (world : World) : Type 0 where
  pub opening : IsOpening (world_settings world) O
  pub steps : IsInterleaving (world_settings world) L
  pub histories : (p : ℕ) (book : Book) → slice_get world.books p ≡ Some book →
      book.events ≡ history (world_settings world) O L p
  pub board : IsBoardOf (world_settings world) O L world.board

-- The world has run some steps since some opening.
abbrev pub HasRunSomething : World → Type 0
HasRunSomething world = (O : Opening) × (L : List Step) × HasRun O L world

-- From the first world to the second the step was run, and answered as the model answers it,
-- whatever was run before.
abbrev pub Runs : World → Step → Answer → World → Type 0
Runs old step answered new = (O : Opening) (L : List Step) → HasRun O L old →
    (answered ≡ answer (world_settings old) O L step) × HasRun O (step ∷ L) new

-- The step may need memory after these steps: a command whose event is appended, or whose reply
-- copies unread entries or lines; and any other step that finds something new.
abbrev pub NeedsMemory : HubSettings → Opening → List Step → Step → Type 0
NeedsMemory s O L (Ask ask) = (copies (history s O L ask.who) ask.command ≡ true)
    ⊎ (length (history s O L ask.who) < length (history s O (Ask ask ∷ L) ask.who))
NeedsMemory s O L (Deliver from index to) = answer s O L (Deliver from index to) ≡ New true
NeedsMemory s O L (Learn who from index) = answer s O L (Learn who from index) ≡ New true
NeedsMemory s O L (Expire who index at) = answer s O L (Expire who index at) ≡ New true

-- The step may need memory at this world, whatever was run before.
abbrev pub TakesMemory : World → Step → Type 0
TakesMemory world step =
    (O : Opening) (L : List Step) → HasRun O L world → NeedsMemory (world_settings world) O L step

-- The answer is the model's at a hub with these settings, after some steps since some opening.
pub record IsOfModel (s : HubSettings) (step : Step) (answered : Answer) : Type 0 where
  pub lawful : IsSettings s
  pub opening : Opening
  pub steps : List Step
  pub is_opening : IsOpening s opening
  pub is_interleaving : IsInterleaving s steps
  pub answer_is : answered ≡ answer s opening steps step

-- The second world has the same books as the first, and its board says the same of each place.
pub record IsAsBefore (old new : World) : Type 0 where
  pub settings_are : world_settings new ≡ world_settings old
  pub books_are : new.books ≡ old.books
  pub board_says : (place : Place) →
      SayTheSame (standing_at new.board place) (standing_at old.board place)

-- The step wasn't run, since it needs memory: the world is as before, and has run the same steps.
pub record IsUnrun (old new : World) (step : Step) : Type 0 where
  pub as_before : IsAsBefore old new
  pub memory : TakesMemory old step
  pub has_run : (O : Opening) (L : List Step) → HasRun O L old → HasRun O L new
