-- The content of a plain board: one value for each place, up to the last one that was written. Its
-- one holder knows all of it. The order of places in the list is a choice of this hub.
use Rattle.std.specs.Prelude.{◌≡◌, ◌≢◌, ◌≤◌, ℕ, ◌+◌, ◌*◌, List, Option, Some, None, true, false}
use Rattle.std.specs.Prelude.{IsTrue, refl, if◌then◌else◌, length, get_or, slice_get}
use Rattle.inst_command.specs.declared.outcome.Outcome.{Outcome}
use Rattle.inst_settings.specs.Settings.{HubSettings, participants}
use Rattle.inst_terms.specs.declared.terms.Terms.{Terms}
use Rattle.inst_command.specs.declared.place.Place.{Place}
use Rattle.inst_board.specs.declared.wish.Wish.{Wish}
use Rattle.inst_board.specs.declared.about.About.{About}
use Rattle.inst_board.specs.declared.about.About.TheVariants.{Decided}
use Rattle.inst_board.specs.declared.about.Fact.{Fact}
use Rattle.inst_board.specs.declared.plain.Kept.{Kept}
use Rattle.inst_board.specs.declared.plain.Kept.TheVariants.{Unused, Written, Pending}
use Rattle.inst_board.specs.declared.plain.Kept.TheVariants.{Decided as DecidedKept}
use Rattle.inst_board.specs.Standing.{Standing, unused, pending, decided, is_place, IsPlace}
use Rattle.inst_board.specs.Standing.{IsLawful, Says, about}
use Rattle.inst_board.specs.Wish.{wanted}

-- settings: those of the hub
-- kept: the content of each place, by rank; nothing for places after the last one written
pub record Contents : Type 0 where
  pub settings : HubSettings
  pub kept : List Kept

-- The place's number among all, one originator after another.
abbrev pub place_number : HubSettings → Place → ℕ
place_number s place = place.owner * s.places + place.index

-- The place's rank on a plain board. Places with the same index are adjacent, since originators use
-- their places in order.
abbrev pub rank_of : HubSettings → Place → ℕ
rank_of s place = place.index * participants s + place.owner

-- The content of a place; `Unused` for one that the settings don't have.
abbrev pub kept_at : Contents → Place → Kept
kept_at board place =
    if is_place board.settings place then get_or board.kept (rank_of board.settings place) Unused
    else Unused

-- The standing of a place with this content.
abbrev pub standing_of : Kept → Standing
standing_of Unused = unused
standing_of (Written terms) = unused
standing_of (Pending terms deadline) = pending terms deadline
standing_of (DecidedKept terms deadline outcome at) = decided terms deadline outcome at

-- The standing of each place.
abbrev pub standing_at : Contents → Place → Standing
standing_at board place = standing_of (kept_at board place)

-- The holder knows all that is true of the places.
abbrev pub plain_knows : Contents → Fact → Type 0
plain_knows board fact = Says (standing_at board fact.place) fact.about

-- The holder knows nothing about a place that the settings don't have.
pub known_is_place : (board : Contents) (place : Place) (a : About) →
    plain_knows board (about place a) →
    IsPlace board.settings place
known_is_place board place a = elim (is_place board.settings place) as (λ has.
    let kept : Kept =
    if has then get_or board.kept (rank_of board.settings place) Unused else Unused in
    Says (standing_of kept) a → IsTrue has
    ) [
      | true ↦ λ _. refl
      | false ↦ λ says. absurd says
    ]

-- The terms written to a place that isn't opened.
abbrev pub plain_wrote : Contents → Place → Terms → Type 0
plain_wrote board place terms = kept_at board place ≡ Written terms

-- The outcome was decided before exactly if it is the place's.
abbrev pub plain_stood : Contents → Place → Outcome → Type 0
plain_stood board place outcome = Says (standing_at board place) (Decided outcome)

-- The standing of a place after a wish at the clock reading.
abbrev pub standing_after : ℕ → Wish → ℕ → Standing → Standing
standing_after margin wish at unused = unused
standing_after margin wish at (pending terms deadline) = elim (wanted margin wish deadline at) [
  | None ↦ pending terms deadline
  | Some outcome ↦ decided terms deadline outcome at
]
standing_after margin wish at (decided terms deadline outcome moment) =
    decided terms deadline outcome moment

-- The outcome of the standing.
abbrev pub outcome_of_standing : Standing → Option Outcome
outcome_of_standing unused = None
outcome_of_standing (pending terms deadline) = None
outcome_of_standing (decided terms deadline outcome at) = Some outcome

-- There are no more values than places, and each is lawful.
pub record IsContents (board : Contents) : Type 0 where
  pub sized : length board.kept ≤ participants board.settings * board.settings.places
  pub lawful : (k : ℕ) → IsLawful board.settings.margin (standing_of (get_or board.kept k Unused))

-- The terms in a place's content.
abbrev pub kept_terms : Kept → Option Terms
kept_terms Unused = None
kept_terms (Written terms) = Some terms
kept_terms (Pending terms deadline) = Some terms
kept_terms (DecidedKept terms deadline outcome at) = Some terms

-- The terms of each place are at its rank.
abbrev pub HaveTerms : List Kept → List Terms → Type 0
HaveTerms kept all =
    (k : ℕ) (terms : Terms) → kept_terms (get_or kept k Unused) ≡ Some terms →
    slice_get all k ≡ Some terms

-- From the first to the second the content of the place k becomes this, and all others are
-- unchanged.
pub record Becomes (old : Contents) (k : Place) (kept : Kept) (new : Contents) : Type 0 where
  pub settings : new.settings ≡ old.settings
  pub here : kept_at new k ≡ kept
  pub elsewhere : (j : Place) → j ≢ k → kept_at new j ≡ kept_at old j
