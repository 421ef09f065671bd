-- The settings that a hub can have. The ranges are a choice of this hub.
use Rattle.std.specs.Prelude.{◌≡◌, ℕ, ◌<◌, ◌≤◌, Bool, true, ◌&&◌, not, List, [], ◌∷◌, length}
use Rattle.std.specs.List.{list_all, list_any}
use Rattle.inst_base.specs.Text.{is_code}
use Rattle.inst_settings.specs.Settings.{HubSettings, same_text}
use Rattle.inst_settings.specs.declared.hub_parameters.HubParameters.{HubParameters}
use Rattle.inst_settings.specs.declared.ranges.TheConstants.{MOST_PARTICIPANTS, MOST_PLACES}
use Rattle.inst_settings.specs.declared.ranges.TheConstants.{MOST_FUNDINGS, MOST_LIMIT, MOST_AHEAD}
use Rattle.inst_settings.specs.declared.ranges.TheConstants.{MOST_CEILING, MOST_BASE}

-- The settings with these values.
abbrev pub settings_with : List (List ℕ) → ℕ → ℕ → ℕ → ℕ → ℕ → ℕ → ℕ → HubSettings
settings_with codes places fundings limit margin ahead ceiling base = record {
  codes = codes;
  places = places;
  fundings = fundings;
  limit = limit;
  margin = margin;
  ahead = ahead;
  ceiling = ceiling;
  base = base;
}

-- The settings with these participants and numbers.
abbrev pub settings_from : List (List ℕ) → HubParameters → HubSettings
settings_from codes n =
    settings_with codes n.places n.fundings n.limit n.margin n.ahead n.ceiling n.base

-- The numbers of settings.
abbrev pub numbers_of : HubSettings → HubParameters
numbers_of s = record {
  places = s.places;
  fundings = s.fundings;
  limit = s.limit;
  margin = s.margin;
  ahead = s.ahead;
  ceiling = s.ceiling;
  base = s.base;
}

-- True if no two codes are equal.
abbrev pub are_different : List (List ℕ) → Bool
are_different [] = true
are_different (code ∷ codes) =
    not (list_any (λ other. same_text other code) codes) && are_different codes

-- The settings are in their ranges, and their codes are different.
pub record IsSettings (s : HubSettings) : Type 0 where
  pub participants_some : 1 ≤ length s.codes
  pub participants_most : length s.codes ≤ MOST_PARTICIPANTS
  pub different : are_different s.codes ≡ true
  pub places_some : 1 ≤ s.places
  pub places_most : s.places ≤ MOST_PLACES
  pub fundings_some : 1 ≤ s.fundings
  pub fundings_most : s.fundings ≤ MOST_FUNDINGS
  pub limit_some : 1 ≤ s.limit
  pub limit_most : s.limit ≤ MOST_LIMIT
  pub margin_below : s.margin < s.limit
  pub ahead_most : s.ahead ≤ MOST_AHEAD
  pub ceiling_some : 1 ≤ s.ceiling
  pub ceiling_most : s.ceiling ≤ MOST_CEILING
  pub base_most : s.base ≤ MOST_BASE

-- A hub can have the settings: `IsSettings`, and each code is well formed.
pub record AreOfAHub (s : HubSettings) : Type 0 where
  pub lawful : IsSettings s
  pub codes_formed : list_all is_code s.codes ≡ true
