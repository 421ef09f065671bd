-- A sweep under a participant's lock. Each own transfer without an outcome may expire, in order of
-- deadline and place; then each forwarded one is learnt, in order of arrival; then the places of
-- each other originator are looked at, from the first to the first unused one, and what is new
-- there is delivered. A choice of this hub.
use Rattle.std.specs.Prelude.{◌≡◌, ◌≢◌, ℕ, zero, suc, ◌+◌, ◌-◌, ◌^◌, min, Bool, true, false, List}
use Rattle.std.specs.Prelude.{length, Option, Some, None, Result, Ok, Err, alloc_error}
use Rattle.std.specs.declared.alloc.AllocError.{AllocError}
use Rattle.inst_base.specs.TimeLimit.{is_due}
use Rattle.inst_settings.specs.Settings.{participants}
use Rattle.inst_command.specs.declared.place.Place.{Place}
use Rattle.inst_board.specs.declared.look.Look.{Look}
use Rattle.inst_board.specs.declared.look.Look.TheVariants.{Unused, Pending, Decided}
use Rattle.inst_cell.specs.Held.{settings_of, knows, has_role, stood, Stays}
use Rattle.inst_journal.specs.declared.event.Event.{Event}
use Rattle.inst_slot.specs.Arrived.{GivesUnbooked, IsNextUnbooked}
use Rattle.inst_slot.specs.Book.{place_at}
use Rattle.inst_slot.specs.Telling.{Expires}
use Rattle.inst_slot.specs.Waiting.{GivesNextDue, IsNextDue, waits}
use Rattle.inst_participant.specs.declared.participant.Participant.{Participant}
use Rattle.inst_participant.specs.declared.follow_up.FollowUpKind.TheVariants.{Deliver, Learn}
use Rattle.inst_participant.specs.Following.{Does, ShowsLook}

-- The own transfer at this index may expire at clock reading t.
abbrev pub MayExpire : ℕ → Participant → ℕ → Result Bool AllocError → Participant → Type 0
MayExpire t x index result y =
    Expires (settings_of x.board).margin knows has_role stood Stays x.board x.slot index t result
    y.board y.slot

-- From x to y each own pending transfer after this pair may expire, by deadline and place: until
-- none is left (`whole`), or until allocation fails, and nothing is done after that.
pub data LetsExpire (t : ℕ) : Option (ℕ × ℕ) → Bool → Participant → Participant → Type 0 where
  none_left : (after : Option (ℕ × ℕ)) (x : Participant) → GivesNextDue x.slot after None →
      LetsExpire t after true x x
  then_next : (after : Option (ℕ × ℕ)) (pair : ℕ × ℕ) (is_new whole : Bool) (x z y : Participant) →
      IsNextDue x.slot after pair →
      MayExpire t x pair.1 (Ok is_new) z → LetsExpire t (Some pair) whole z y →
      LetsExpire t after whole x y
  refused : (after : Option (ℕ × ℕ)) (pair : ℕ × ℕ) (x y : Participant) →
      IsNextDue x.slot after pair →
      MayExpire t x pair.1 (Err alloc_error) y → LetsExpire t after false x y

-- From x to y each forwarded transfer without an outcome is learnt, from this position on in order
-- of arrival: until none is left, or until allocation fails, and nothing is done after that.
pub data LearnsAll : ℕ → Bool → Participant → Participant → Type 0 where
  none_left : (from : ℕ) (x : Participant) → GivesUnbooked x.slot from None →
      LearnsAll from true x x
  then_next : (from position : ℕ) (k : Place) (is_new whole : Bool) (x z y : Participant) →
      IsNextUnbooked x.slot from (position, k) →
      Does Learn x k (Ok is_new) z → LearnsAll (position + 1) whole z y → LearnsAll from whole x y
  refused : (from position : ℕ) (k : Place) (x y : Participant) →
      IsNextUnbooked x.slot from (position, k) →
      Does Learn x k (Err alloc_error) y → LearnsAll from false x y

-- A pending place is used; the delivery may fail to allocate.
abbrev pub is_used_unless_memory : Result Bool AllocError → Result Bool AllocError
is_used_unless_memory (Ok is_new) = Ok true
is_used_unless_memory (Err fault) = Err fault

-- What is done with a place that shows this, and whether the place is used. A pending transfer is
-- delivered if it is new.
abbrev pub Brings : Look → Participant → Place → Result Bool AllocError → Participant → Type 0
Brings Unused x k used y = (used ≡ Ok false) × (y ≡ x)
Brings (Decided terms outcome) x k used y = (used ≡ Ok true) × (y ≡ x)
Brings (Pending terms deadline) x k used y =
    (came : Result Bool AllocError) × Does Deliver x k came y × (used ≡ is_used_unless_memory came)

-- The place was looked at, and what is new there was delivered, unless that failed to allocate.
pub record LooksAt (x : Participant) (k : Place) (used : Result Bool AllocError) (y : Participant) :
    Type 0 where
  pub look : Look
  pub between : Participant
  pub same : between.slot ≡ x.slot
  pub shows : ShowsLook x.board k look between.board
  pub brings : Brings look between k used y

-- From x to y so many places of the originator are looked at, from this index on: up to the first
-- unused one, or until allocation fails, and nothing is done after that.
pub data DeliversFrom (owner : ℕ) : ℕ → ℕ → Bool → Participant → Participant → Type 0 where
  no_more : (index : ℕ) (x : Participant) → DeliversFrom owner index zero true x x
  unused : (index left : ℕ) (x y : Participant) → LooksAt x (place_at owner index) (Ok false) y →
      DeliversFrom owner index (suc left) true x y
  then_next : (index left : ℕ) (whole : Bool) (x z y : Participant) →
      LooksAt x (place_at owner index) (Ok true) z →
      DeliversFrom owner (index + 1) left whole z y → DeliversFrom owner index (suc left) whole x y
  refused : (index left : ℕ) (x y : Participant) →
      LooksAt x (place_at owner index) (Err alloc_error) y →
      DeliversFrom owner index (suc left) false x y

-- From x to y the places of so many originators are looked at, from this one on by number, without
-- the participant's own: until allocation fails, and nothing is done after that.
pub data DeliversAll : ℕ → ℕ → Bool → Participant → Participant → Type 0 where
  no_more : (owner : ℕ) (x : Participant) → DeliversAll owner zero true x x
  own : (owner left : ℕ) (whole : Bool) (x y : Participant) → owner ≡ x.slot.who →
      DeliversAll (owner + 1) left whole x y →
      DeliversAll owner (suc left) whole x y
  then_next : (owner left : ℕ) (whole : Bool) (x z y : Participant) → owner ≢ x.slot.who →
      DeliversFrom owner 0 x.slot.settings.places true x z →
      DeliversAll (owner + 1) left whole z y → DeliversAll owner (suc left) whole x y
  refused : (owner left : ℕ) (x y : Participant) → owner ≢ x.slot.who →
      DeliversFrom owner 0 x.slot.settings.places false x y → DeliversAll owner (suc left) false x y

-- A sweep at clock reading t, whole or until allocation failed. What was done before is kept, and
-- nothing was done after it.
pub data Sweeps (t : ℕ) : Bool → Participant → Participant → Type 0 where
  swept : (whole : Bool) (x expired learnt y : Participant) → LetsExpire t None true x expired →
      LearnsAll 0 true expired learnt →
      DeliversAll 0 (participants x.slot.settings) whole learnt y → Sweeps t whole x y
  resolution_refused : (x expired y : Participant) → LetsExpire t None true x expired →
      LearnsAll 0 false expired y → Sweeps t false x y
  expiry_refused : (x y : Participant) → LetsExpire t None false x y → Sweeps t false x y

-- No own transfer that is due at clock reading t is pending.
abbrev pub NothingDue : ℕ → Participant → Type 0
NothingDue t y =
    (d k : ℕ) → waits y.slot.settings y.slot.who y.slot.events d k ≡ true → is_due d t ≡ false

-- How many events one history has more than the other, at most 2^32 - 1.
abbrev pub new_events : List Event → List Event → ℕ
new_events J K = min (length K - length J) (2 ^ 32 - 1)

-- A whole sweep at clock reading t: it stored `count` events, and no own due transfer is pending.
pub record IsWholeSweep (t : ℕ) (x y : Participant) (count : ℕ) : Type 0 where
  pub new : count ≡ new_events x.slot.events y.slot.events
  pub due : NothingDue t y
