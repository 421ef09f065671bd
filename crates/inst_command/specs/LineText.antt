-- The text of a statement line: six columns with a space between, 91 characters in all. The layout
-- is a choice of this hub.
use Rattle.std.specs.Prelude.{ℕ, ◌-◌, ◌++◌, ◌&&◌, nat_le, Bool, true, false, Option, Some, None}
use Rattle.std.specs.Prelude.{unwrap_or, List, []}
use Rattle.std.specs.Prelude.{length, replicate, slice_get, codes, decimal}
use Rattle.inst_settings.specs.Settings.{HubSettings, is_participant}
use Rattle.inst_command.specs.declared.line.LineKind.{LineKind}
use Rattle.inst_command.specs.declared.line.LineKind.TheVariants.{Funded, Defunded, Received, Paid}
use Rattle.inst_command.specs.declared.line.Line.{Line}

-- The largest number that fits a line's first column.
abbrev pub last_number : ℕ
last_number = 999999

-- A text aligned left in a column, padded with spaces.
abbrev pub left_in : ℕ → List ℕ → List ℕ
left_in width text = text ++ replicate (width - length text) 32

-- A text aligned right in a column, padded with spaces.
abbrev pub right_in : ℕ → List ℕ → List ℕ
right_in width text = replicate (width - length text) 32 ++ text

-- The text for a line's kind.
abbrev pub kind_name : LineKind → List ℕ
kind_name Funded = codes "FND"
kind_name Defunded = codes "DFD"
kind_name Received = codes "IN"
kind_name Paid = codes "OUT"

-- The code of the participant with this number.
abbrev pub code_numbered : HubSettings → ℕ → List ℕ
code_numbered s number = unwrap_or (slice_get s.codes number) []

-- The other participant's code, or an empty text without one.
abbrev pub other_code : HubSettings → Option ℕ → List ℕ
other_code s None = []
other_code s (Some number) = code_numbered s number

-- True if a line of this kind names another participant exactly when it must.
abbrev pub other_fits : HubSettings → LineKind → Option ℕ → Bool
other_fits s Funded None = true
other_fits s Funded (Some number) = false
other_fits s Defunded None = true
other_fits s Defunded (Some number) = false
other_fits s Received None = false
other_fits s Received (Some number) = is_participant s number
other_fits s Paid None = false
other_fits s Paid (Some number) = is_participant s number

-- True if the line has a text: its number fits its column, and `other_fits` holds.
abbrev pub line_fits : HubSettings → Line → Bool
line_fits s line = nat_le line.number last_number && other_fits s line.kind line.other

-- The text of a line.
unfoldable pub line_text : HubSettings → Line → List ℕ
line_text s line =
    right_in 6 (decimal line.number) ++ codes " "
    ++ left_in 3 (kind_name line.kind) ++ codes " "
    ++ left_in 11 (other_code s line.other) ++ codes " "
    ++ left_in 35 line.id ++ codes " "
    ++ right_in 11 (decimal line.cents) ++ codes " "
    ++ right_in 20 (decimal line.position)
