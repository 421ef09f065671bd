-- Steps as JSON objects: each is a table of its members, with the keys in byte order. Every command
-- begins with the clock reading and ends with the asker. Moments are absolute milliseconds, amounts
-- cents, and participants codes. The commands stand for the scheme's messages (EPC004-16, chapter
-- 4: datasets); their form is a choice of this hub.
use Rattle.std.specs.Prelude.{ℕ, ◌+◌, List, [], ◌∷◌, ◌++◌, codes}
use Rattle.serde_json.specs.Data.{Data, object, string}
use Rattle.serde_json.specs.Written.{compact_text}
use Rattle.inst_settings.specs.Settings.{HubSettings}
use Rattle.inst_command.specs.LineText.{code_numbered}
use Rattle.inst_command.specs.declared.ask.Ask.{Ask}
use Rattle.inst_command.specs.declared.command.Command.{Command}
use Rattle.inst_command.specs.declared.command.Command.TheVariants as command
use Rattle.inst_command.specs.declared.funding.Funding.{Funding}
use Rattle.inst_command.specs.declared.query.Query.{Query}
use Rattle.inst_command.specs.declared.query.Query.TheVariants as query
use Rattle.inst_command.specs.declared.submission.Submission.{Submission}
use Rattle.inst_command.specs.declared.step.Step.{Step}
use Rattle.inst_command.specs.declared.step.Step.TheVariants as step
use Rattle.inst_json.specs.Replies.{members, whole}

-- A command, by its name.
abbrev pub named_command : List ℕ → List ℕ × Data
named_command name = (codes "cmd", string name)

-- A step, by its name.
abbrev pub named_step : List ℕ → List ℕ × Data
named_step name = (codes "step", string name)

-- A participant, by its code.
abbrev pub coded : HubSettings → List ℕ → ℕ → List ℕ × Data
coded s key number = (key, string (code_numbered s number))

-- A funding or defunding of the asker's position, by its name.
abbrev pub funding_rows : List ℕ → Funding → List (List ℕ × Data)
funding_rows name funding =
    (codes "cents", whole funding.cents)
    ∷ named_command name
    ∷ (codes "ref", string funding.reference) ∷ []

-- A submission of a credit transfer (pacs.008).
abbrev pub submission_rows : HubSettings → Submission → List (List ℕ × Data)
submission_rows s x =
    (codes "cents", whole x.cents)
    ∷ named_command (codes "submit")
    ∷ (codes "id", string x.id)
    ∷ (codes "stamp", whole (s.base + x.stamp))
    ∷ coded s (codes "to") x.to ∷ []

-- A beneficiary's confirmation (pacs.002, ACCP) of a transfer of the originator `from`.
abbrev pub confirmation_rows : HubSettings → ℕ → List ℕ → List (List ℕ × Data)
confirmation_rows s from id =
    named_command (codes "confirm")
    ∷ coded s (codes "from") from
    ∷ (codes "id", string id) ∷ []

-- A beneficiary's rejection (pacs.002, RJCT).
abbrev pub rejection_rows : HubSettings → ℕ → List ℕ → List ℕ → List (List ℕ × Data)
rejection_rows s from id reason =
    named_command (codes "reject")
    ∷ coded s (codes "from") from
    ∷ (codes "id", string id)
    ∷ (codes "reason", string reason) ∷ []

-- An investigation (pacs.028).
abbrev pub investigation_rows : List ℕ → List (List ℕ × Data)
investigation_rows id =
    named_command (codes "investigate")
    ∷ (codes "id", string id) ∷ []

-- A fetch of forwarded transfers.
abbrev pub fetch_rows : ℕ → List (List ℕ × Data)
fetch_rows max =
    named_command (codes "fetch")
    ∷ (codes "max", whole max) ∷ []

-- A query for statement lines.
abbrev pub statement_rows : ℕ → ℕ → List (List ℕ × Data)
statement_rows skip count =
    named_command (codes "statement")
    ∷ (codes "count", whole count)
    ∷ (codes "skip", whole skip) ∷ []

-- A query.
abbrev pub query_rows : Query → List (List ℕ × Data)
query_rows query.Position = named_command (codes "position") ∷ []
query_rows (query.Statement skip count) = statement_rows skip count

-- The members of a command between the clock reading and the asker.
abbrev pub command_rows : HubSettings → Command → List (List ℕ × Data)
command_rows s (command.Fund funding) = funding_rows (codes "fund") funding
command_rows s (command.Defund funding) = funding_rows (codes "defund") funding
command_rows s (command.Submit submission) = submission_rows s submission
command_rows s (command.Confirm from id) = confirmation_rows s from id
command_rows s (command.Reject from id reason) = rejection_rows s from id reason
command_rows s (command.Investigate id) = investigation_rows id
command_rows s (command.Fetch max) = fetch_rows max
command_rows s (command.Query asked) = query_rows asked

-- A command line: the clock reading, the command and the asker.
abbrev pub ask_rows : HubSettings → Ask → List (List ℕ × Data)
ask_rows s ask =
    (codes "at", whole (s.base + ask.at))
    ∷ (command_rows s ask.command ++ coded s (codes "who") ask.who ∷ [])

-- A delivery or a learning: the participant `who`, and the place of the originator `from`.
abbrev pub passing_rows : HubSettings → List ℕ → ℕ → ℕ → ℕ → List (List ℕ × Data)
passing_rows s name who from index =
    coded s (codes "from") from
    ∷ (codes "place", whole index)
    ∷ named_step name
    ∷ coded s (codes "who") who ∷ []

-- An expiry of the transfer at a place of `who`, at this clock reading.
abbrev pub expiry_rows : HubSettings → ℕ → ℕ → ℕ → List (List ℕ × Data)
expiry_rows s who index at =
    (codes "at", whole (s.base + at))
    ∷ (codes "place", whole index)
    ∷ named_step (codes "expire")
    ∷ coded s (codes "who") who ∷ []

-- A step.
abbrev pub step_rows : HubSettings → Step → List (List ℕ × Data)
step_rows s (step.Ask ask) = ask_rows s ask
step_rows s (step.Deliver from index to) = passing_rows s (codes "deliver") to from index
step_rows s (step.Learn who from index) = passing_rows s (codes "learn") who from index
step_rows s (step.Expire who index at) = expiry_rows s who index at

-- The object of a step.
abbrev pub step_data : HubSettings → Step → Data
step_data s step = object (members (step_rows s step))

-- The text of an object with these members.
unfoldable pub members_line : List (List ℕ × Data) → List ℕ
members_line rows = compact_text (object (members rows))

-- The line of a step, without the newline.
abbrev pub step_line : HubSettings → Step → List ℕ
step_line s step = members_line (step_rows s step)
