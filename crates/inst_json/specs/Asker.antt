-- The asker and clock reading of every command. They are read first and checked after the amount,
-- since refusals are in the order of the faults. That order is a choice of this hub.
use Rattle.std.specs.Prelude.{Result, Ok}
use Rattle.inst_base.specs.Moment.{moment_of}
use Rattle.inst_settings.specs.Settings.{HubSettings}
use Rattle.inst_command.specs.declared.ask.Ask.{Ask}
use Rattle.inst_command.specs.declared.command.Command.{Command}
use Rattle.inst_json.specs.LineFields.{LineFields}
use Rattle.inst_json.specs.Refusals.{◌>>=◌, in_field}
use Rattle.inst_json.specs.Fields.{whole_in, code_in}
use Rattle.inst_json.specs.Checks.{participant_of}
use Rattle.inst_json.specs.declared.asker.Asker.{Asker}
use Rattle.inst_json.specs.declared.asker.KnownAsker.{KnownAsker}
use Rattle.inst_json.specs.declared.name.Name.TheVariants as name
use Rattle.inst_json.specs.declared.refusal.Refusal.{Refusal}

-- The code of the asker, and the clock reading in absolute milliseconds.
unfoldable pub asker_of : LineFields → Result Asker Refusal
asker_of line = do
  who ← in_field name.Who (code_in line.who)
  at ← in_field name.At (whole_in line.at)
  Ok (record { who = who; at = at })

-- The number of the asker, and the moment.
unfoldable pub known_of : HubSettings → Asker → Result KnownAsker Refusal
known_of s asker = do
  at ← in_field name.At (moment_of s.base asker.at)
  who ← in_field name.Who (participant_of s asker.who)
  Ok (record { who = who; at = at })

-- The ask of a known participant.
abbrev pub asking : KnownAsker → Command → Ask
asking asker command = record { who = asker.who; command = command; at = asker.at }
