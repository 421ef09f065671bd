-- The report of lines that no hub accepts. Its text is a choice of this hub.
use Rattle.std.specs.Prelude.{ℕ, ◌+◌, List, [], ◌∷◌, ◌++◌, Option, Some, None, Result, Ok, Err}
use Rattle.std.specs.Prelude.{if◌then◌else◌, codes}
use Rattle.std.specs.Fmt.{decimal}
use Rattle.inst_base.specs.Fault.{number_of, name_of}
use Rattle.inst_base.specs.declared.fault.Fault.TheVariants.{LineTooLong}
use Rattle.inst_settings.specs.Settings.{HubSettings}
use Rattle.inst_json.specs.Lines.{blamed_command_of_line}
use Rattle.inst_json.specs.Name.{text_of}
use Rattle.inst_json.specs.declared.name.Name.{Name}
use Rattle.inst_json.specs.declared.refusal.Refusal.{Refusal}
use Rattle.inst_lines.specs.Answers.{is_too_long}
use Rattle.inst_base.specs.Newline.{newline}
use Rattle.inst_lines.specs.Lines.{lines_of}
use Rattle.inst_base.specs.Handing.{WritesPart}

-- The refusal in a result, if there is one.
abbrev pub refusal_in : {A : Type 0} → Result A Refusal → Option Refusal
refusal_in (Ok x) = None
refusal_in (Err refusal) = Some refusal

-- The refusal of a command line, whatever a hub's books are, if it is refused.
abbrev pub refusal_of : HubSettings → List ℕ → Option Refusal
refusal_of s line =
    if is_too_long line then Some (record { fault = LineTooLong; field = None })
    else refusal_in (blamed_command_of_line s line)

-- The name of the refused field.
abbrev pub field_text : Option Name → List ℕ
field_text None = []
field_text (Some name) = codes " in \"" ++ text_of name ++ codes "\""

-- The report of a refusal of the line of this number.
abbrev pub refusal_text : ℕ → Refusal → List ℕ
refusal_text n refusal =
    ((((((codes "line " ++ decimal n) ++ codes ": fault ") ++ decimal (number_of refusal.fault))
    ++ codes " ")
    ++ name_of refusal.fault) ++ field_text refusal.field) ++ newline ∷ []

-- The same, if the line is refused.
abbrev pub told_if : ℕ → Option Refusal → List ℕ
told_if n None = []
told_if n (Some refusal) = refusal_text n refusal

-- The report of the line of this number.
abbrev pub told_line : HubSettings → ℕ → List ℕ → List ℕ
told_line s n line = told_if n (refusal_of s line)

-- The report of lines, the first of which has this number.
abbrev pub told_lines : HubSettings → ℕ → List (List ℕ) → List ℕ
told_lines s n [] = []
told_lines s n (line ∷ lines) = told_line s n line ++ told_lines s (n + 1) lines

-- The report of the lines of these bytes.
abbrev pub check_report : HubSettings → List ℕ → List ℕ
check_report s bytes = told_lines s 1 (lines_of bytes)

-- A prefix of the report is written.
abbrev pub TellsPart : HubSettings → List ℕ → Option (List ℕ) → Option (List ℕ) → Type 0
TellsPart s bytes before after = WritesPart before after (check_report s bytes)
