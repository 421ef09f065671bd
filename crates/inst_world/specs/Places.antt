-- The transfer at a place of a hub that has run steps. Places are a choice of this hub.
use Rattle.std.specs.Prelude.{◌≡◌, ℕ, List, Some, None}
use Rattle.inst_settings.specs.Settings.{HubSettings}
use Rattle.inst_command.specs.declared.step.Step.{Step}
use Rattle.inst_command.specs.declared.place.Place.{Place}
use Rattle.inst_model.specs.Opening.{Opening}
use Rattle.inst_model.specs.Transfer.{Transfer, at_place}
use Rattle.inst_model.specs.Hub.{history, outcome}

-- The place has a transfer without an outcome.
abbrev pub IsPendingAt : HubSettings → Opening → List Step → Place → Type 0
IsPendingAt s O L place =
    (x : Transfer) × (at_place place.owner (history s O L place.owner) place.index ≡ Some x)
    × (outcome s O L place.owner x.id ≡ None)

-- The place has the originator's live transfer with this identifier.
abbrev pub IsPlaceOf : HubSettings → Opening → List Step → ℕ → List ℕ → Place → Type 0
IsPlaceOf s O L from id place =
    (x : Transfer) × (at_place from (history s O L from) place.index ≡ Some x) × (x.id ≡ id)
