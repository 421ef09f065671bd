-- The standing of a place at a moment, and the facts that are true of it: unused, pending with the
-- terms and the deadline of its transfer, or decided. A transfer is pending, accepted, rejected or
-- timed out as in the rulebook (EPC004-16, chapter 4: processing flow); places are a choice of this
-- hub.
use Rattle.std.specs.Prelude.{◌≡◌, ℕ, ◌≤◌, IsTrue, Bool, ◌&&◌, nat_lt}
use Rattle.inst_command.specs.declared.outcome.Outcome.{Outcome}
use Rattle.inst_settings.specs.Settings.{HubSettings, participants}
use Rattle.inst_terms.specs.declared.terms.Terms.{Terms}
use Rattle.inst_terms.specs.declared.word.Word.{Word}
use Rattle.inst_terms.specs.declared.word.Word.TheVariants.{Unused as UnusedWord}
use Rattle.inst_terms.specs.declared.word.Word.TheVariants.{Pending as PendingWord}
use Rattle.inst_terms.specs.declared.word.Word.TheVariants.{Decided as DecidedWord}
use Rattle.inst_terms.specs.WordLaw.{InTime}
use Rattle.inst_command.specs.declared.place.Place.{Place}
use Rattle.inst_board.specs.declared.place_state.PlaceState.{PlaceState}
use Rattle.inst_board.specs.declared.place_state.PlaceState.TheVariants.{Unused as UnusedGlance}
use Rattle.inst_board.specs.declared.place_state.PlaceState.TheVariants.{Pending as PendingGlance}
use Rattle.inst_board.specs.declared.place_state.PlaceState.TheVariants.{Decided as DecidedGlance}
use Rattle.inst_board.specs.declared.look.Look.{Look}
use Rattle.inst_board.specs.declared.look.Look.TheVariants.{Unused, Pending, Decided as DecidedLook}
use Rattle.inst_board.specs.declared.about.About.{About}
use Rattle.inst_board.specs.declared.about.About.TheVariants.{Opened, HasTerms, Due, Decided}
use Rattle.inst_board.specs.declared.about.About.TheVariants.{DecidedAt}
use Rattle.inst_board.specs.declared.about.Fact.{Fact}

-- True if the settings have the place.
abbrev pub is_place : HubSettings → Place → Bool
is_place s place = nat_lt place.owner (participants s) && nat_lt place.index s.places

-- The settings have the place.
abbrev pub IsPlace : HubSettings → Place → Type 0
IsPlace s place = IsTrue (is_place s place)

-- The standing of a place.
pub data Standing : Type 0 where
  unused : Standing
  -- The terms and the deadline.
  pending : Terms → ℕ → Standing
  -- The terms, the deadline, the outcome and the clock reading of the decision.
  decided : Terms → ℕ → Outcome → ℕ → Standing

-- A standing that a place may have: its deadline is at least 1, and its outcome is in time, with
-- this margin for acceptances.
abbrev pub IsLawful : ℕ → Standing → Type 0
IsLawful margin unused = Unit {0}
IsLawful margin (pending terms deadline) = 1 ≤ deadline
IsLawful margin (decided terms deadline outcome at) =
    (1 ≤ deadline) × InTime margin outcome deadline at

-- The fact is true of the standing.
abbrev pub Says : Standing → About → Type 0
Says unused about = ⊥
Says (pending terms deadline) Opened = Unit {0}
Says (pending terms deadline) (HasTerms others) = others ≡ terms
Says (pending terms deadline) (Due other) = other ≡ deadline
Says (pending terms deadline) (Decided other) = ⊥
Says (pending terms deadline) (DecidedAt other) = ⊥
Says (decided terms deadline outcome at) Opened = Unit {0}
Says (decided terms deadline outcome at) (HasTerms others) = others ≡ terms
Says (decided terms deadline outcome at) (Due other) = other ≡ deadline
Says (decided terms deadline outcome at) (Decided other) = other ≡ outcome
Says (decided terms deadline outcome at) (DecidedAt other) = other ≡ at

-- The facts that reading the place's words shows. A decided word doesn't contain the deadline, and
-- only the holder that decides a transfer learns at which clock reading.
abbrev pub Shows : Standing → About → Type 0
Shows unused about = ⊥
Shows (pending terms deadline) about = Says (pending terms deadline) about
Shows (decided terms deadline outcome at) Opened = Unit {0}
Shows (decided terms deadline outcome at) (HasTerms others) = others ≡ terms
Shows (decided terms deadline outcome at) (Due other) = ⊥
Shows (decided terms deadline outcome at) (Decided other) = other ≡ outcome
Shows (decided terms deadline outcome at) (DecidedAt other) = ⊥

-- The outcome word of a place.
abbrev pub word_of : Standing → Word
word_of unused = UnusedWord
word_of (pending terms deadline) = PendingWord deadline
word_of (decided terms deadline outcome at) = DecidedWord outcome at

-- The look at a place.
abbrev pub look_of : Standing → Look
look_of unused = Unused
look_of (pending terms deadline) = Pending terms deadline
look_of (decided terms deadline outcome at) = DecidedLook terms outcome

-- A look without the terms.
abbrev pub place_state_of : Look → PlaceState
place_state_of Unused = UnusedGlance
place_state_of (Pending terms deadline) = PendingGlance deadline
place_state_of (DecidedLook terms outcome) = DecidedGlance outcome

-- The fact with its place.
abbrev pub about : Place → About → Fact
about place what = record { place = place; about = what }
