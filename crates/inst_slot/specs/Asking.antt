-- The effect of a command on a participant's books and its board. The board decides the place of a
-- transfer that is confirmed, rejected or investigated and has no booked outcome; a taken
-- submission opens the next place; nothing else changes the board. A choice of this hub.
use Rattle.std.specs.Prelude.{◌≡◌, ◌≢◌, ◌⊎◌, ℕ, Bool, true, false, ◌&&◌, ◌||◌, is_none, is_some}
use Rattle.std.specs.Prelude.{nat_lt, List, IfErr, OnErr}
use Rattle.std.specs.Prelude.{◌∷◌, ◌++◌, length, position, Option, Some, None, Result, Err}
use Rattle.inst_base.specs.TimeLimit.{deadline_of}
use Rattle.inst_base.specs.declared.fault.Fault.{Fault}
use Rattle.inst_base.specs.declared.fault.Fault.TheVariants.{Memory}
use Rattle.inst_command.specs.declared.ask.Ask.{Ask}
use Rattle.inst_command.specs.declared.command.Command.{Command}
use Rattle.inst_command.specs.declared.command.Command.TheVariants.{Confirm, Reject, Investigate}
use Rattle.inst_command.specs.declared.outcome.Outcome.{Outcome}
use Rattle.inst_command.specs.declared.reply.Reply.{Reply}
use Rattle.inst_command.specs.declared.place.Place.{Place}
use Rattle.inst_board.specs.declared.look.Look.{Look}
use Rattle.inst_board.specs.declared.look.Look.TheVariants.{Pending}
use Rattle.inst_board.specs.declared.wish.Wish.{Wish}
use Rattle.inst_board.specs.declared.wish.Wish.TheVariants.{Accept, Reject as WishReject, Expire}
use Rattle.inst_board.specs.declared.about.Fact.{Fact}
use Rattle.inst_board.specs.Standing.{pending}
use Rattle.inst_board.specs.Learning.{Learns, Looks, Decides, KnowTheSame}
use Rattle.inst_board.specs.Wish.{wanted}
use Rattle.inst_journal.specs.declared.event.Event.{Event}
use Rattle.inst_journal.specs.declared.event.Event.TheVariants.{Taken}
use Rattle.inst_journal.specs.declared.handle.Handled.{Handled}
use Rattle.inst_journal.specs.Booked.{takes, is_taken, is_forwarded, booked}
use Rattle.inst_journal.specs.Opened.{live_taken, live_submissions}
use Rattle.inst_journal.specs.Reply.{handle, reply_result, kept_events, copies}
use Rattle.inst_journal.specs.Sound.{IsSound}
use Rattle.inst_slot.specs.Book.{Book, place_at, terms_to, arrived_at}
use Rattle.inst_slot.specs.LawfulBoard.{IsAdopted}

-- True if the command decides a transfer: it confirms or rejects a forwarded one, or investigates a
-- taken one, that has no booked outcome.
abbrev pub decides : Book → Command → Bool
decides book (Confirm from id) =
    is_forwarded from id book.events && is_none (booked from id book.events)
decides book (Reject from id reason) =
    is_forwarded from id book.events && is_none (booked from id book.events)
decides book (Investigate id) = is_taken id book.events && is_none (booked book.who id book.events)
decides book _ = false

-- A wish for the place with this index, if its transfer has no booked outcome.
abbrev pub wish_for : Wish → ℕ → Option Outcome → Option ℕ → Option (Place × Wish)
wish_for wish owner None (Some index) = Some (place_at owner index, wish)
wish_for wish owner None None = None
wish_for wish owner (Some outcome) index = None

-- The place that a command asks the board to decide, with its wish.
abbrev pub request : Book → Command → Option (Place × Wish)
request book (Confirm from id) =
    wish_for Accept from (booked from id book.events) (arrived_at from id book.arrivals)
request book (Reject from id reason) =
    wish_for (WishReject reason) from (booked from id book.events)
    (arrived_at from id book.arrivals)
request book (Investigate id) =
    wish_for Expire book.who (booked book.who id book.events)
    (position (takes id) (live_taken book.who book.events))
request book _ = None

-- The place of the transfer that is confirmed or rejected is known.
abbrev pub AsksAdopted : Book → Command → Type 0
AsksAdopted book (Confirm from id) = IsAdopted book from id
AsksAdopted book (Reject from id reason) = IsAdopted book from id
AsksAdopted book _ = Unit {0}

-- From board b to board c the same holder looked at the place, and then found what a decision
-- allows for this wish at this clock reading.
pub record Finds {B : Type 0} (margin : ℕ) (knows : B → Fact → Type 0) (has_role : B → ℕ → Type 0)
    (stood : B → Place → Outcome → Type 0) (stays : B → B →
    Type 0) (b : B) (k : Place) (wish : Wish) (at : ℕ)
    (found : Option Outcome) (c : B) : Type 0 where
  pub look : Look
  pub between : B
  pub same_holder : stays b between
  pub looks : Looks margin knows has_role stood b k look between
  pub decides : Decides margin knows stood between k wish at found c

-- True if the look shows a transfer that stays pending under this wish.
abbrev pub stays_pending : ℕ → Wish → ℕ → Look → Bool
stays_pending margin wish at (Pending terms deadline) = is_none (wanted margin wish deadline at)
stays_pending margin wish at _ = false

-- The board was only looked at, and the look didn't show a transfer that stays pending.
pub record OnlyLooks {B : Type 0} (margin : ℕ) (knows : B → Fact → Type 0) (has_role : B → ℕ →
    Type 0)
    (stood : B → Place → Outcome →
    Type 0) (b : B) (k : Place) (wish : Wish) (at : ℕ) (c : B) : Type 0 where
  pub look : Look
  pub looks : Looks margin knows has_role stood b k look c
  pub books : stays_pending margin wish at look ≡ false

-- The reply to the participant's ask if this outcome is found, and the event to append.
abbrev pub handle_ask : Book → Ask → Option Outcome → Result Handled Fault
handle_ask book ask found = handle book.settings book.who book.events ask.command ask.at found

-- The book after an ask of its participant that found this outcome.
abbrev pub book_after : Book → Ask → Option Outcome → Book
book_after book ask found =
    record book { events = book.events ++ kept_events (handle_ask book ask found) }

-- The board after these events: if the first takes a submission, the next place was opened for it.
abbrev pub Opens : {B : Type 0} → ℕ → (B → Fact → Type 0) → Book → List Event → B → B → Type 0
Opens margin knows book (Taken id to cents stamp ∷ events) b c =
    Learns margin knows b (place_at book.who (live_submissions book.who book.events))
    (pending (terms_to to cents id) (deadline_of book.settings.limit stamp)) c
Opens margin knows book _ b c = c ≡ b

-- True if an ask without a decision may allocate: to append an event, or to copy its reply.
abbrev pub takes_memory : Book → Ask → Bool
takes_memory book ask =
    copies book.events ask.command || nat_lt 0 (length (kept_events (handle_ask book ask None)))

-- An ask without a decision: either the reply and the book are those of handle_ask, or an
-- allocation failed and nothing changed.
abbrev pub Enters : {B : Type 0} → ℕ → (B → Fact → Type 0) → B → Book → Ask → Result Reply Fault →
    B → Book → Type 0
Enters margin knows b book ask result c new =
    ((result ≡ reply_result (handle_ask book ask None)) × (new ≡ book_after book ask None)
    × Opens margin knows book (kept_events (handle_ask book ask None)) b c)
    ⊎ ((result ≡ Err Memory) × (new ≡ book) × (c ≡ b) × (takes_memory book ask ≡ true))

-- An ask that decides place k: either the reply and the book are those of handle_ask for the
-- outcome found, or an allocation failed, the book is unchanged and the board was only looked at.
abbrev pub Settles : {B : Type 0} → ℕ → (B → Fact → Type 0) → (B → ℕ → Type 0) →
    (B → Place → Outcome → Type 0) →
    (B → B → Type 0) → B → Book → Ask → Place → Wish → Result Reply Fault → B → Book → Type 0
Settles margin knows has_role stood stays b book ask k wish result c new =
    ((found : Option Outcome) × (result ≡ reply_result (handle_ask book ask found))
    × (new ≡ book_after book ask found)
    × Finds margin knows has_role stood stays b k wish ask.at found c)
    ⊎ ((result ≡ Err Memory) × (new ≡ book)
    × OnlyLooks margin knows has_role stood b k wish ask.at c)

-- An ask of the participant, with or without a decision.
abbrev pub AppliesTo : {B : Type 0} → ℕ → (B → Fact → Type 0) → (B → ℕ → Type 0) →
    (B → Place → Outcome → Type 0) →
    (B → B → Type 0) → B → Book → Ask → Option (Place × Wish) → Result Reply Fault → B → Book →
    Type 0
AppliesTo margin knows has_role stood stays b book ask None result c new =
    Enters margin knows b book ask result c new
AppliesTo margin knows has_role stood stays b book ask (Some asked) result c new =
    Settles margin knows has_role stood stays b book ask asked.0 asked.1 result c new

-- The effect of an ask of the participant.
abbrev pub Applies : {B : Type 0} → ℕ → (B → Fact → Type 0) → (B → ℕ → Type 0) →
    (B → Place → Outcome → Type 0) →
    (B → B → Type 0) → B → Book → Ask → Result Reply Fault → B → Book → Type 0
Applies margin knows has_role stood stays b book ask result c new =
    AppliesTo margin knows has_role stood stays b book ask (request book ask.command) result c new

-- The contract of Slot::apply.
--
-- - applies: the ask is answered, with or without a decision
-- - decides: the board is asked exactly if the command decides a transfer
-- - left: a refused ask leaves the book unchanged
-- - unknown: and the board's holder knows what it knew, unless the fault is Memory
pub record AnswersAsk {B : Type 0} (margin : ℕ) (knows : B → Fact → Type 0)
    (has_role : B → ℕ → Type 0) (stood : B → Place → Outcome → Type 0) (stays : B → B → Type 0)
    (b : B) (book : Book) (ask : Ask) (result : Result Reply Fault) (c : B) (new : Book)
    : Type 0 where
  pub applies : Applies margin knows has_role stood stays b book ask result c new
  pub sound : IsSound book.settings book.who book.events
  pub decides : is_some (request book ask.command) ≡ decides book ask.command
  pub left : OnErr result (new ≡ book)
  pub unknown : IfErr result (λ fault. fault ≢ Memory → KnowTheSame knows b c)
