-- A line of bytes as JSON (RFC 8259) in UTF-8 nested at most 127 deep, and as a command or a step.
use Rattle.std.specs.Prelude.{ℕ, List, None, ok_or, Result, if◌then◌else◌}
use Rattle.std.specs.Str.{is_utf8}
use Rattle.serde_json.specs.Data.{Data}
use Rattle.json.specs.Json.{value}
use Rattle.serde_json.specs.Read.{read}
use Rattle.inst_base.specs.declared.fault.Fault.{Fault}
use Rattle.inst_base.specs.declared.fault.Fault.TheVariants.{NotJson}
use Rattle.inst_settings.specs.Settings.{HubSettings}
use Rattle.inst_command.specs.declared.ask.Ask.{Ask}
use Rattle.inst_json.specs.Refusals.{◌>>=◌, as_whole, by_fault}
use Rattle.inst_command.specs.declared.step.Step.{Step}
use Rattle.inst_json.specs.LineFields.{fields_of}
use Rattle.inst_json.specs.Commands.{ask_of}
use Rattle.inst_json.specs.Steps.{step_of}
use Rattle.inst_json.specs.declared.refusal.Refusal.{Refusal}

-- The JSON value of a line, or NotJson.
unfoldable pub json_of : List ℕ → Result Data Fault
json_of line = ok_or (if is_utf8 line then read line else None) NotJson

-- The ask of a line, or its refusal with the field.
unfoldable pub blamed_command_of_line : HubSettings → List ℕ → Result Ask Refusal
blamed_command_of_line s line = do
  value ← as_whole (json_of line)
  ask_of s (fields_of value)

-- The same, with the fault alone.
unfoldable pub command_of_line : HubSettings → List ℕ → Result Ask Fault
command_of_line s line = by_fault (blamed_command_of_line s line)

-- The step of a script line, or its refusal with the field.
unfoldable pub blamed_step_of_line : HubSettings → List ℕ → Result Step Refusal
blamed_step_of_line s line = do
  value ← as_whole (json_of line)
  step_of s (fields_of value)

-- The same, with the fault alone.
unfoldable pub step_of_line : HubSettings → List ℕ → Result Step Fault
step_of_line s line = by_fault (blamed_step_of_line s line)
