-- The beneficiaries of the live transfers, by which closing finds the sides of each.
use Rattle.std.specs.Prelude.{◌≡◌, ℕ, ◌<◌, ◌≤◌, List, length, slice_get, Some, option_map}
use Rattle.std.specs.Global.{Vec}
use Rattle.inst_settings.specs.Settings.{participants}
use Rattle.inst_settings.specs.declared.ranges.TheConstants.{MOST_PLACES}
use Rattle.inst_command.specs.declared.step.Step.{Step}
use Rattle.inst_model.specs.Hub.{history}
use Rattle.inst_model.specs.Opening.{Opening}
use Rattle.inst_model.specs.Transfer.{at_place}
use Rattle.inst_world.specs.HasRun.{World, HasRun, world_settings}

-- The list has the beneficiaries of the originator's live transfers, by the index of the place.
pub record HasBeneficiaries (world : World) (from : ℕ) (list : List ℕ) : Type 0 where
  pub few : length list ≤ (world_settings world).places
  pub most : length list ≤ MOST_PLACES
  pub by_place : (O : Opening) (L : List Step) → HasRun O L world → (index : ℕ) →
      index < (world_settings world).places →
      slice_get list index
      ≡ option_map (λ x. x.to) (at_place from (history (world_settings world) O L from) index)

-- There is such a list for each originator, by number.
pub record HasAllBeneficiaries (world : World) (lists : List (Vec ℕ)) : Type 0 where
  pub one_each : length lists ≡ participants (world_settings world)
  pub each : (from : ℕ) (list : Vec ℕ) → slice_get lists from ≡ Some list →
      HasBeneficiaries world from list.items
