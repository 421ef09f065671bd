-- The settings after changes, and the books that a hub of these settings opens from.
use Rattle.std.specs.Prelude.{◌≡◌, ℕ, List, take, length}
use mathlib.Core.List.{IsPrefix}
use Rattle.inst_settings.specs.Settings.{HubSettings, participants}
use Rattle.inst_settings.specs.Lawful.{IsSettings}
use Rattle.inst_settings.specs.declared.ranges.TheConstants.{MOST_PARTICIPANTS}
use Rattle.inst_journal.specs.History.{History}
use Rattle.inst_world.specs.HasRun.{world_settings}
use Rattle.inst_world.specs.NextOpening.{CanOpenFrom, books_of}
use Rattle.inst_options.specs.Changes.{AreFormed, changed}
use Rattle.inst_options.specs.declared.setting_changes.SettingChanges.{SettingChanges}
use Rattle.inst_program.specs.Keeping.{NextHub}
use Rattle.inst_program.specs.declared.changing.Closed.{Closed}
use Rattle.inst_program.specs.declared.changing.Opening.{Opening}

-- What the closed hub would open from without a change.
abbrev pub hub_closed : Closed → NextHub
hub_closed closed =
    record {
      mode = closed.mode;
      settings = world_settings closed.runner.world;
      journals = closed.journals.items;
    }

-- What this opening is from.
abbrev pub hub_opening : Opening → NextHub
hub_opening next =
    record { mode = next.mode; settings = next.settings; journals = next.journals.items }

-- The journals, and empty ones for all who may join.
pub record AreExtended (journals all : List History) : Type 0 where
  pub most : length all ≡ MOST_PARTICIPANTS
  pub same : (p : ℕ) → books_of all p ≡ books_of journals p

-- A hub of the settings t, which are s with the changes, can open from the first of these journals.
pub record Allows (changes : SettingChanges) (s : HubSettings) (all : List History)
    (t : HubSettings) : Type 0 where
  pub settings : t ≡ changed changes s
  pub base : t.base ≡ s.base
  pub lawful : IsSettings t × AreFormed changes
  pub codes : IsPrefix s.codes t.codes
  pub can : CanOpenFrom t (take (participants t) all)
