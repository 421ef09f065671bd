-- The settings of a hub as C gives them: participants as one text with commas, and numbers. A
-- choice of this hub.
use Rattle.std.specs.Prelude.{◌≡◌, ◌⊎◌, ℕ, Bool, List, if◌then◌else◌}
use Rattle.inst_base.specs.declared.fault.Fault.{Fault}
use Rattle.inst_base.specs.declared.fault.Fault.TheVariants.{BadSettings, Memory}
use Rattle.inst_settings.specs.Parts.{parts_of}
use Rattle.inst_settings.specs.Settings.{HubSettings}
use Rattle.inst_settings.specs.Lawful.{AreOfAHub, settings_with}
use Rattle.inst_lines.specs.declared.mode.Mode.{Mode}
use Rattle.inst_lines.specs.declared.mode.Mode.TheVariants.{Run, Play}
use Rattle.inst_c.specs.declared.chosen.Chosen.{Chosen}

-- The settings that are given.
abbrev pub chosen : List ℕ → Chosen → HubSettings
chosen participants s =
    settings_with (parts_of participants) s.places s.fundings s.limit s.margin s.ahead s.ceiling
    s.base

-- The mode of the lines.
abbrev pub mode_of : Bool → Mode
mode_of is_play = if is_play then Play else Run

-- Why no hub opens: an allocation failed, or no hub can have the settings.
abbrev pub IsOpenRefusal : HubSettings → Fault → Type 0
IsOpenRefusal s fault = (fault ≡ Memory) ⊎ ((fault ≡ BadSettings) × ¬ (AreOfAHub s))
