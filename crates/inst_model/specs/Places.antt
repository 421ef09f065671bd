-- A place and an identifier name the same transfer of an originator, and for good. A choice of this
-- hub.
use Rattle.std.specs.Prelude.{◌≡◌, ℕ, true, List, ◌++◌, Some}
use Rattle.inst_settings.specs.Settings.{HubSettings}
use Rattle.inst_journal.specs.Opened.{is_live}
use Rattle.inst_command.specs.declared.step.Step.{Step}
use Rattle.inst_model.specs.Interleaving.{IsInterleaving}
use Rattle.inst_model.specs.Opening.{Opening, IsOpening}
use Rattle.inst_model.specs.Transfer.{Transfer, transfer, at_place}
use Rattle.inst_model.specs.Hub.{history, outcome, outcome_at}

-- The transfer at a place is found by its identifier, has the place's outcome, and keeps the place.
pub record IsNamedByPlace (s : HubSettings) (O : Opening) (L : List Step) (p index : ℕ)
    (x : Transfer) : Type 0 where
  pub by_identifier : transfer x.id (history s O L p) ≡ Some x
  pub outcome_is : outcome_at s O L p index ≡ outcome s O L p x.id
  pub for_good : (later : List Step) → at_place p (history s O (later ++ L) p) index ≡ Some x

-- The law: `IsNamedByPlace` for each transfer at a place.
abbrev pub PlacesName : Type 0
PlacesName =
    (s : HubSettings) (O : Opening) → IsOpening s O → (L : List Step) (p index : ℕ) (x : Transfer) →
    IsInterleaving s L →
    at_place p (history s O L p) index ≡ Some x → IsNamedByPlace s O L p index x

-- A live transfer that is found by its identifier has a place.
abbrev pub IdentifiersName : Type 0
IdentifiersName =
    (s : HubSettings) (O : Opening) (L : List Step) (p : ℕ) (id : List ℕ) (x : Transfer) →
    transfer id (history s O L p) ≡ Some x → is_live p id (history s O L p) ≡ true →
    (index : ℕ) × (at_place p (history s O L p) index ≡ Some x) × (x.id ≡ id)
