-- The JSON members of a first line.
use Rattle.std.specs.Prelude.{◌≡◌, ℕ, List, map, codes, Option, Some, option_and_then, option_map}
use Rattle.std.specs.Prelude.{IfSome}
use Rattle.serde_json.specs.Data.{Data, string, Items}
use Rattle.serde_json.specs.Find.{get, as_number, as_u64, as_str, as_array}
use Rattle.inst_settings.specs.Settings.{HubSettings}
use Rattle.inst_json.specs.Replies.{items}
use Rattle.inst_lines.specs.declared.mode.Mode.{Mode}
use Rattle.inst_logged.specs.declared.version.Version.{Version}
use Rattle.inst_logged.specs.declared.version.Version.TheVariants.{One, Two}
use Rattle.inst_logged.specs.Header.{mode_word}
use Rattle.inst_chain.specs.Chain.{IsHexadecimal}
use Rattle.inst_logged.specs.declared.header.Origin.{Origin}

-- The number under a name.
abbrev pub number_in : List ℕ → Data → Option ℕ
number_in name d = option_and_then as_u64 (option_and_then as_number (get name d))

-- The text under a name.
abbrev pub header_text : List ℕ → Data → Option (List ℕ)
header_text name d = option_and_then as_str (get name d)

-- The list under a name.
abbrev pub list_in : List ℕ → Data → Option Items
list_in name d = option_and_then as_array (get name d)

-- The version as a number.
abbrev pub version_number : Version → ℕ
version_number One = 1
version_number Two = 2

-- The members of the settings have these values.
pub record SaysSettings (s : HubSettings) (d : Data) : Type 0 where
  pub participants : list_in (codes "participants") d ≡ Some (items (map string s.codes))
  pub places : number_in (codes "places") d ≡ Some s.places
  pub fundings : number_in (codes "fundings") d ≡ Some s.fundings
  pub limit : number_in (codes "limit") d ≡ Some s.limit
  pub margin : number_in (codes "margin") d ≡ Some s.margin
  pub ahead : number_in (codes "ahead") d ≡ Some s.ahead
  pub ceiling : number_in (codes "ceiling") d ≡ Some s.ceiling
  pub base : number_in (codes "base") d ≡ Some s.base

-- The members about the books have these values.
pub record SaysOrigin (origin : Origin) (d : Data) : Type 0 where
  pub lines : number_in (codes "books") d ≡ origin.books
  pub text : header_text (codes "previous") d ≡ option_map (λ digest. digest.text) origin.previous
  pub digest : IfSome origin.previous IsHexadecimal

-- All members have these values.
pub record HeaderSays (version : Version) (mode : Mode) (s : HubSettings) (origin : Origin)
    (d : Data) : Type 0 where
  pub version_is : number_in (codes "version") d ≡ Some (version_number version)
  pub mode_is : header_text (codes "log") d ≡ Some (mode_word mode)
  pub origin_is : SaysOrigin origin d
  pub settings : SaysSettings s d
