-- Positions that are carried into a new chain of logs, whose books have fundings alone. A choice of
-- this hub.
use Rattle.std.specs.Prelude.{◌≡◌, ℕ, ◌+◌, ◌<◌, nat_lt, Bool, true, false, List}
use Rattle.std.specs.Prelude.{Option, None, Some, Ok}
use Rattle.std.specs.List.{Contains, list_all}
use Rattle.inst_settings.specs.Codes.{index_of}
use Rattle.inst_settings.specs.Settings.{HubSettings}
use Rattle.inst_journal.specs.declared.event.Event.{Event}
use Rattle.inst_journal.specs.declared.event.Event.TheVariants.{Funded, Taken}
use Rattle.inst_journal.specs.History.{History}
use Rattle.inst_journal.specs.Money.{position, reserved}
use Rattle.inst_world.specs.NextOpening.{books_of}
use Rattle.inst_command.specs.declared.ask.Ask.{Ask}
use Rattle.inst_json.specs.Commands.{submit_of}
use Rattle.inst_json.specs.Fields.{whole_in}
use Rattle.inst_json.specs.LineFields.{LineFields}

-- True if the event is a funding.
abbrev pub is_fund : Event → Bool
is_fund (Funded funding) = true
is_fund _ = false

-- The history has fundings alone, and they add up to this position.
pub record IsFundedWith (cents : ℕ) (J : List Event) : Type 0 where
  pub only : list_all is_fund J ≡ true
  pub sum : position J ≡ cents

-- The position in the book of this number; 0 without a number.
abbrev pub position_at : List History → Option ℕ → ℕ
position_at journals None = 0
position_at journals (Some p) = position (books_of journals p)

-- The position of the participant with this code; 0 if no participant has it.
abbrev pub position_of : HubSettings → List History → List ℕ → ℕ
position_of s journals code = position_at journals (index_of code s.codes)

-- All transfers of the old books are settled, the new ones have fundings alone, and each code has
-- the same position in both. So who leaves had none, and who joins has none.
pub record CarriesPositions (old : HubSettings) (books : List History) (new : HubSettings)
    (next : List History) : Type 0 where
  pub settled : (p : ℕ) → reserved (books_of books p) ≡ 0
  pub same : (code : List ℕ) → position_of new next code ≡ position_of old books code
  pub only : (p : ℕ) → list_all is_fund (books_of next p) ≡ true

-- True unless the event takes a transfer whose time stamp, counted from the old base, is at the new
-- base or later.
abbrev pub is_before_base : ℕ → ℕ → Event → Bool
is_before_base old new (Taken id to cents stamp) = nat_lt (old + stamp) new
is_before_base old new _ = true

-- The new base is at least the old one, and after every time stamp of the books.
pub record IsBaseAfter (old : ℕ) (journals : List History) (new : ℕ) : Type 0 where
  pub least : old < new + 1
  pub stamps : (p : ℕ) → list_all (is_before_base old new) (books_of journals p) ≡ true

-- A hub whose base is after the time stamps of these books takes none of their submissions again: no
-- line with such a time stamp is a submission, at any clock reading.
abbrev pub NoOldSubmissionIsTaken : Type 0
NoOldSubmissionIsTaken =
    (old : ℕ) (journals : List History) (s : HubSettings) → IsBaseAfter old journals s.base
    → (p : ℕ) (id : List ℕ) (to cents stamp : ℕ)
    → Contains (books_of journals p) (Taken id to cents stamp)
    → (asker : _) (line : LineFields) → whole_in line.stamp ≡ Ok (old + stamp)
    → (ask : Ask) → ¬ (submit_of s asker line ≡ Ok ask)
