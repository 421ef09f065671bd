-- The steps of script lines. Each first reads its fields, in which order doesn't matter, and then
-- checks their values in the order of the faults: moments, participants. Steps are a choice of this
-- hub.
use Rattle.std.specs.Prelude.{ℕ, List, Result, Ok, Err, if◌then◌else◌, codes}
use Rattle.inst_base.specs.declared.fault.Fault.TheVariants.{BadField}
use Rattle.inst_settings.specs.Settings.{HubSettings, same_text}
use Rattle.inst_command.specs.declared.step.Step.{Step}
use Rattle.inst_command.specs.declared.step.Step.TheVariants as step
use Rattle.inst_json.specs.LineFields.{LineFields}
use Rattle.inst_json.specs.Refusals.{◌>>=◌, in_field}
use Rattle.inst_json.specs.Fields.{text_in, code_in, place_in, is_there}
use Rattle.inst_json.specs.Checks.{participant_of}
use Rattle.inst_json.specs.Asker.{asker_of, known_of}
use Rattle.inst_json.specs.Commands.{ask_of}
use Rattle.inst_json.specs.declared.name.Name.TheVariants as name
use Rattle.inst_json.specs.declared.refusal.Refusal.{Refusal}
use Rattle.inst_json.specs.declared.step.Passing.{Passing}

-- A participant, and the place of an originator's transfer that is delivered to it or that it
-- learns about.
unfoldable pub passing_of : HubSettings → LineFields → Result Passing Refusal
passing_of s line = do
  who ← in_field name.Who (code_in line.who)
  from ← in_field name.From (code_in line.from)
  index ← in_field name.Place (place_in line.place)
  who ← in_field name.Who (participant_of s who)
  from ← in_field name.From (participant_of s from)
  Ok (record { who = who; from = from; index = index })

-- The transfer at a place of `from` is delivered to `who`.
unfoldable pub deliver_of : HubSettings → LineFields → Result Step Refusal
deliver_of s line = do
  passing ← passing_of s line
  Ok (step.Deliver passing.from passing.index passing.who)

-- The participant `who` books the decided outcome of the transfer at a place of `from`.
unfoldable pub learn_of : HubSettings → LineFields → Result Step Refusal
learn_of s line = do
  passing ← passing_of s line
  Ok (step.Learn passing.who passing.from passing.index)

-- The asker books the outcome of its own transfer at a place, or times it out if due.
unfoldable pub expire_of : HubSettings → LineFields → Result Step Refusal
expire_of s line = do
  asker ← asker_of line
  index ← in_field name.Place (place_in line.place)
  asker ← known_of s asker
  Ok (step.Expire asker.who index asker.at)

-- The step of this name.
abbrev pub step_named : HubSettings → LineFields → List ℕ → Result Step Refusal
step_named s line text =
    if same_text text (codes "deliver") then deliver_of s line else
    (if same_text text (codes "learn") then learn_of s line else
    (if same_text text (codes "expire") then expire_of s line
    else in_field name.Step (Err BadField)))

-- The step that the field `step` names.
unfoldable pub move_of : HubSettings → LineFields → Result Step Refusal
move_of s line = do
  text ← in_field name.Step (text_in line.step)
  step_named s line text

-- The ask of a command line, as a step.
unfoldable pub asked_of : HubSettings → LineFields → Result Step Refusal
asked_of s line = do
  ask ← ask_of s line
  Ok (step.Ask ask)

-- The step of a script line. If the field `step` is present, whatever its value, the line isn't a
-- command.
unfoldable pub step_of : HubSettings → LineFields → Result Step Refusal
step_of s line = if is_there line.step then move_of s line else asked_of s line
