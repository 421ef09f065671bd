-- What a crew saw of transfers, which its tellers then know. A choice of this hub.
use Rattle.std.specs.Prelude.{◌≡◌, ◌≢◌, ℕ, List, slice_get, Some}
use Rattle.inst_board.specs.declared.about.About.TheVariants.{Opened, Decided}
use Rattle.inst_command.specs.declared.place.Place.{Place}
use Rattle.inst_board.specs.Standing.{about}
use Rattle.inst_command.specs.declared.outcome.Outcome.{Outcome}
use Rattle.inst_command.specs.declared.outcome.State.{State}
use Rattle.inst_command.specs.declared.outcome.State.TheVariants.{Unused, Decided as IsDecided}
use Rattle.inst_hub.specs.declared.teller.Teller.{Teller}
use Rattle.inst_hub.specs.Calls.{knows_of}

-- The teller knows that the place is opened, and the outcome if the state has one.
pub record IsOutcomeSeen (t : Teller) (pair : Place × State) : Type 0 where
  pub opened : knows_of t (about pair.0 Opened)
  pub used : pair.1 ≢ Unused
  pub outcome : (o : Outcome) → pair.1 ≡ IsDecided o → knows_of t (about pair.0 (Decided o))

-- One of these tellers knows each state.
abbrev pub AreSeenByOne : List Teller → List (Place × State) → Type 0
AreSeenByOne tellers states = (i : ℕ) (pair : Place × State) → slice_get states i ≡ Some pair →
    (j : ℕ) × (t : Teller) × (slice_get tellers j ≡ Some t) × IsOutcomeSeen t pair
