-- The laws of statement lines: all have one length, and the text determines the line, except for
-- spaces at the end of the identifier. Promises of this hub.
use Rattle.std.specs.Prelude.{◌≡◌, ◌<◌, ◌≤◌, ◌^◌, true, IsTrue, length}
use Rattle.std.specs.List.{list_all}
use Rattle.inst_base.specs.Text.{is_code, is_identifier}
use Rattle.inst_base.specs.declared.cents.TheConstants.{MOST_CENTS}
use Rattle.inst_settings.specs.Settings.{HubSettings}
use Rattle.inst_settings.specs.Lawful.{IsSettings}
use Rattle.inst_command.specs.LineText.{left_in, line_fits, line_text}
use Rattle.inst_command.specs.declared.line.Line.{Line}

-- A statement line of a hub with these settings.
pub record IsLineOf (s : HubSettings) (line : Line) : Type 0 where
  pub settings : IsSettings s
  pub codes : list_all is_code s.codes ≡ true
  pub fits : line_fits s line ≡ true
  pub identifier : IsTrue (is_identifier line.id)
  pub amount : line.cents ≤ MOST_CENTS
  pub position : line.position < 2 ^ 64

-- The lines are equal, except for spaces at the end of the identifier.
pub record IsSameButForSpaces (a b : Line) : Type 0 where
  pub number : a.number ≡ b.number
  pub kind : a.kind ≡ b.kind
  pub other : a.other ≡ b.other
  pub id : left_in 35 a.id ≡ left_in 35 b.id
  pub cents : a.cents ≡ b.cents
  pub position : a.position ≡ b.position

-- The text of each line has 91 characters.
abbrev pub EachLineHas91Characters : Type 0
EachLineHas91Characters =
    (s : HubSettings) (line : Line) → IsLineOf s line → length (line_text s line) ≡ 91

-- Two lines with the same text are equal, except for those spaces.
abbrev pub ATextTellsItsLine : Type 0
ATextTellsItsLine =
    (s : HubSettings) (a b : Line) → IsLineOf s a → IsLineOf s b → line_text s a ≡ line_text s b →
    IsSameButForSpaces a b
