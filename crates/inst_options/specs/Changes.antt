-- The settings that the options of `next` change. A choice of this hub.
use Rattle.std.specs.Prelude.{◌≡◌, ◌⊎◌, ℕ, true, List, Option, Some, None, IfSome, option_map}
use Rattle.std.specs.Prelude.{unwrap_or, codes}
use Rattle.clap.specs.Words.{Row, Text, first_of}
use Rattle.inst_base.specs.declared.fault.Fault.{Fault}
use Rattle.inst_base.specs.declared.fault.Fault.TheVariants.{BadSettings, Memory}
use Rattle.inst_settings.specs.Parts.{parts_of, are_codes}
use Rattle.inst_settings.specs.Lawful.{IsSettings}
use Rattle.inst_settings.specs.Settings.{HubSettings}
use Rattle.inst_options.specs.Options.{GivesOrNot}
use Rattle.inst_options.specs.declared.setting_changes.SettingChanges.{SettingChanges}

-- The codes that are given, or those of before.
abbrev pub codes_after : Option Text → List (List ℕ) → List (List ℕ)
codes_after None codes = codes
codes_after (Some text) codes = parts_of text

-- The settings after these changes. What isn't given stays.
abbrev pub changed : SettingChanges → HubSettings → HubSettings
changed c s = record {
  codes = codes_after (option_map (λ text. text.now) c.participants) s.codes;
  places = unwrap_or c.places s.places;
  fundings = unwrap_or c.fundings s.fundings;
  limit = unwrap_or c.limit s.limit;
  margin = unwrap_or c.margin s.margin;
  ahead = unwrap_or c.ahead s.ahead;
  ceiling = unwrap_or c.ceiling s.ceiling;
  base = unwrap_or c.base s.base;
}

-- The options give these changes.
pub record GivesChanges (rows : List Row) (c : SettingChanges) : Type 0 where
  pub participants : option_map (λ text. text.now) c.participants
      ≡ first_of (codes "participants") rows
  pub places : GivesOrNot rows (codes "places") c.places
  pub fundings : GivesOrNot rows (codes "fundings") c.fundings
  pub limit : GivesOrNot rows (codes "limit") c.limit
  pub margin : GivesOrNot rows (codes "margin") c.margin
  pub ahead : GivesOrNot rows (codes "ahead") c.ahead
  pub ceiling : GivesOrNot rows (codes "ceiling") c.ceiling
  pub base : GivesOrNot rows (codes "base") c.base

-- The codes that are given, if any, are well formed.
abbrev pub AreFormed : SettingChanges → Type 0
AreFormed c = IfSome c.participants (λ text. are_codes text.now ≡ true)

-- Why changes are refused: an allocation failed, or no hub can have the settings after them.
abbrev pub AreRefusedChanges : SettingChanges → HubSettings → Fault → Type 0
AreRefusedChanges c s fault =
    (fault ≡ Memory) ⊎ ((fault ≡ BadSettings) × ¬ (IsSettings (changed c s) × AreFormed c))
