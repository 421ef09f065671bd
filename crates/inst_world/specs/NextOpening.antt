-- Opening a hub again from the journals of its participants, one for each in the order of their
-- numbers, which are sound and closed. A pending transfer is carried over, and has its place again
-- on both sides. A choice of this hub.
use Rattle.std.specs.Prelude.{◌≡◌, ℕ, true, List, [], ◌++◌, length, slice_get, Option, Some, None}
use Rattle.std.specs.List.{AllByRecursion}
use Rattle.inst_settings.specs.Settings.{HubSettings, participants, is_participant}
use Rattle.inst_journal.specs.declared.event.Event.{Event}
use Rattle.inst_journal.specs.History.{History}
use Rattle.inst_command.specs.declared.step.Step.{Step}
use Rattle.inst_model.specs.Closing.{AreClosed, closing, is_telling}
use Rattle.inst_model.specs.Hub.{history}
use Rattle.inst_model.specs.Interleaving.{IsInterleaving}
use Rattle.inst_model.specs.Opening.{Opening, BooksCanOpen}
use Rattle.inst_model.specs.Opening.Opening.{FromBooks}
use Rattle.inst_world.specs.HasRun.{World, HasRun, world_settings}

-- The events of a journal, or none if there is no journal.
abbrev pub kept_by : Option History → List Event
kept_by None = []
kept_by (Some journal) = journal.events

-- The book of each participant, by number.
abbrev pub books_of : List History → ℕ → List Event
books_of journals p = kept_by (slice_get journals p)

-- The opening from these journals.
abbrev pub opening_from : List History → Opening
opening_from journals = FromBooks (books_of journals)

-- A hub with these settings can open from the journals.
pub record CanOpenFrom (s : HubSettings) (journals : List History) : Type 0 where
  pub one_each : length journals ≡ participants s
  pub books : BooksCanOpen s (books_of journals)

-- The journals are the closed books of a hub with these settings, one for each participant. A hub
-- can open from them if each has an opening left.
pub record AreClosedBooks (s : HubSettings) (journals : List History) : Type 0 where
  pub one_each : length journals ≡ participants s
  pub closed : AreClosed s (books_of journals)

-- The journals are the participants' books, one for each in order.
pub record AreJournalsOf (s : HubSettings) (J : ℕ →
    List Event) (journals : List History) : Type 0 where
  pub one_each : length journals ≡ participants s
  pub same : (p : ℕ) → is_participant s p ≡ true → books_of journals p ≡ J p

-- If a hub can open from books, it can open from journals that have the participants' books,
-- whatever J says of other numbers.
abbrev pub JournalsCanOpen : Type 0
JournalsCanOpen =
    (s : HubSettings) (J : ℕ → List Event) (journals : List History) → BooksCanOpen s J →
    AreJournalsOf s J journals → CanOpenFrom s journals

-- The world was closed after some steps since some opening.
abbrev pub HasClosed : World → Type 0
HasClosed world = (O : Opening) × (L : List Step) × IsInterleaving (world_settings world) L
    × HasRun O (closing (world_settings world) ++ L) world

-- The journals are the books of a hub that ran these steps since this opening and was then closed.
abbrev pub AreCarried : HubSettings → Opening → List Step → List History → Type 0
AreCarried s O L journals = AreJournalsOf s (history s O (closing s ++ L)) journals

-- From the first world to the second participants only learnt outcomes and got transfers, whatever
-- was run before.
abbrev pub HasOnlyTold : World → World → Type 0
HasOnlyTold old new = (O : Opening) (L : List Step) → HasRun O L old →
    (more : List Step) × AllByRecursion (λ step. is_telling step ≡ true) more
    × HasRun O (more ++ L) new
