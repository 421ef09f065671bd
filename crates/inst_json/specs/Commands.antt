-- The asks of command lines. Each command first reads its fields, in which order doesn't matter,
-- and then checks their values in the order of the faults: identifier, amount, moments,
-- participants. If two checks have the same fault, no reply shows which came first. The commands
-- stand for the scheme's messages (EPC004-16, chapter 4: datasets); fields and order are a choice
-- of this hub.
use Rattle.std.specs.Prelude.{Result, Ok}
use Rattle.inst_base.specs.Text.{identifier_of}
use Rattle.inst_settings.specs.Settings.{HubSettings}
use Rattle.inst_command.specs.declared.ask.Ask.{Ask}
use Rattle.inst_command.specs.declared.command.Command.TheVariants as command
use Rattle.inst_command.specs.declared.query.Query.TheVariants as query
use Rattle.inst_json.specs.LineFields.{LineFields}
use Rattle.inst_json.specs.Refusals.{◌>>=◌, in_field}
use Rattle.inst_json.specs.Fields.{text_in, whole_in, code_in, reason_in, count_in}
use Rattle.inst_json.specs.Checks.{amount_of, stamp_of, participant_of}
use Rattle.inst_json.specs.Asker.{asker_of, known_of, asking}
use Rattle.inst_json.specs.Verb.{verb_in}
use Rattle.inst_json.specs.declared.asker.Asker.{Asker}
use Rattle.inst_json.specs.declared.command.AskedFunding.{AskedFunding}
use Rattle.inst_json.specs.declared.command.Received.{Received}
use Rattle.inst_json.specs.declared.name.Name.TheVariants as name
use Rattle.inst_json.specs.declared.refusal.Refusal.{Refusal}
use Rattle.inst_json.specs.declared.verb.Verb.{Verb}
use Rattle.inst_json.specs.declared.verb.Verb.TheVariants as verb

-- A fund or defund command, and its asker.
unfoldable pub funding_of : HubSettings → Asker → LineFields → Result AskedFunding Refusal
funding_of s asker line = do
  reference ← in_field name.Reference (text_in line.reference)
  cents ← in_field name.Cents (whole_in line.cents)
  reference ← in_field name.Reference (identifier_of reference)
  cents ← in_field name.Cents (amount_of s cents)
  asker ← known_of s asker
  Ok (record { asker = asker; funding = record { reference = reference; cents = cents } })

-- A submission.
unfoldable pub submit_of : HubSettings → Asker → LineFields → Result Ask Refusal
submit_of s asker line = do
  id ← in_field name.Id (text_in line.id)
  to ← in_field name.To (code_in line.to)
  cents ← in_field name.Cents (whole_in line.cents)
  stamp ← in_field name.Stamp (whole_in line.stamp)
  id ← in_field name.Id (identifier_of id)
  cents ← in_field name.Cents (amount_of s cents)
  stamp ← in_field name.Stamp (stamp_of s stamp)
  asker ← known_of s asker
  to ← in_field name.To (participant_of s to)
  Ok (asking asker (command.Submit (record { id = id; to = to; cents = cents; stamp = stamp })))

-- The transfer that a beneficiary confirms or rejects.
unfoldable pub received_of : HubSettings → Asker → LineFields → Result Received Refusal
received_of s asker line = do
  from ← in_field name.From (code_in line.from)
  id ← in_field name.Id (text_in line.id)
  id ← in_field name.Id (identifier_of id)
  asker ← known_of s asker
  from ← in_field name.From (participant_of s from)
  Ok (record { asker = asker; from = from; id = id })

-- A rejection.
unfoldable pub reject_of : HubSettings → Asker → LineFields → Result Ask Refusal
reject_of s asker line = do
  reason ← in_field name.Reason (reason_in line.reason)
  transfer ← received_of s asker line
  Ok (asking transfer.asker (command.Reject transfer.from transfer.id reason))

-- An investigation.
unfoldable pub investigate_of : HubSettings → Asker → LineFields → Result Ask Refusal
investigate_of s asker line = do
  id ← in_field name.Id (text_in line.id)
  id ← in_field name.Id (identifier_of id)
  asker ← known_of s asker
  Ok (asking asker (command.Investigate id))

-- A fetch of forwarded transfers.
unfoldable pub fetch_of : HubSettings → Asker → LineFields → Result Ask Refusal
fetch_of s asker line = do
  max ← in_field name.Max (count_in line.max)
  asker ← known_of s asker
  Ok (asking asker (command.Fetch max))

-- A query for statement lines.
unfoldable pub statement_of : HubSettings → Asker → LineFields → Result Ask Refusal
statement_of s asker line = do
  skip ← in_field name.Skip (whole_in line.skip)
  count ← in_field name.Count (count_in line.count)
  asker ← known_of s asker
  Ok (asking asker (command.Query (query.Statement skip count)))

-- The ask of a command line with this verb.
unfoldable pub command_of : HubSettings → Asker → LineFields → Verb → Result Ask Refusal
command_of s asker line verb.Fund = do
  asked ← funding_of s asker line
  Ok (asking asked.asker (command.Fund asked.funding))
command_of s asker line verb.Defund = do
  asked ← funding_of s asker line
  Ok (asking asked.asker (command.Defund asked.funding))
command_of s asker line verb.Submit = submit_of s asker line
command_of s asker line verb.Confirm = do
  transfer ← received_of s asker line
  Ok (asking transfer.asker (command.Confirm transfer.from transfer.id))
command_of s asker line verb.Reject = reject_of s asker line
command_of s asker line verb.Investigate = investigate_of s asker line
command_of s asker line verb.Fetch = fetch_of s asker line
command_of s asker line verb.Position = do
  asker ← known_of s asker
  Ok (asking asker (command.Query query.Position))
command_of s asker line verb.Statement = statement_of s asker line

-- The ask of a command line.
unfoldable pub ask_of : HubSettings → LineFields → Result Ask Refusal
ask_of s line = do
  verb ← in_field name.Cmd (verb_in line.cmd)
  asker ← asker_of line
  command_of s asker line verb
