-- What one teller saw of transfers.
use Rattle.std.specs.Prelude.{◌≡◌, ℕ, List, slice_get, Some}
use Rattle.inst_command.specs.declared.place.Place.{Place}
use Rattle.inst_command.specs.declared.outcome.State.{State}
use Rattle.inst_hub.specs.declared.teller.Teller.{Teller}
use Rattle.inst_crew.specs.Seen.{IsOutcomeSeen}

-- The teller knows each of these states.
abbrev pub AreSeen : Teller → List (Place × State) → Type 0
AreSeen t states = (i : ℕ) (pair : Place × State) → slice_get states i ≡ Some pair →
    IsOutcomeSeen t pair
