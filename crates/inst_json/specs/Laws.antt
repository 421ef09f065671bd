-- Laws of written lines (inst_json::laws): a reply reads back as its object, its text identifies
-- it, and a step reads back as the step. Promises of this hub.
use Rattle.std.specs.Prelude.{◌≡◌, ℕ, ◌+◌, ◌^◌, ◌&&◌, Bool, true, nat_lt, List, map, Some, Ok}
use Rattle.std.specs.List.{list_all}
use Rattle.serde_json.specs.Read.{read}
use Rattle.serde_json.specs.Written.{compact_text}
use Rattle.inst_base.specs.Cents.{is_amount}
use Rattle.inst_base.specs.Moment.{is_moment}
use Rattle.inst_base.specs.Text.{is_code, is_identifier, is_reason}
use Rattle.inst_settings.specs.Settings.{HubSettings}
use Rattle.inst_settings.specs.Lawful.{IsSettings}
use Rattle.inst_settings.specs.declared.ranges.TheConstants.{MOST_PLACES}
use Rattle.inst_command.specs.LineText.{line_text, code_numbered}
use Rattle.inst_command.specs.Step.{step_fits}
use Rattle.inst_command.specs.declared.ask.Ask.{Ask}
use Rattle.inst_command.specs.declared.command.Command.{Command}
use Rattle.inst_command.specs.declared.command.Command.TheVariants as command
use Rattle.inst_command.specs.declared.entry.Entry.{Entry}
use Rattle.inst_command.specs.declared.query.Query.{Query}
use Rattle.inst_command.specs.declared.query.Query.TheVariants as query
use Rattle.inst_command.specs.declared.reply.Reply.{Reply}
use Rattle.inst_command.specs.declared.reply.Reply.TheVariants as reply
use Rattle.inst_command.specs.declared.step.Step.{Step}
use Rattle.inst_command.specs.declared.step.Step.TheVariants as step
use Rattle.inst_json.specs.Lines.{step_of_line}
use Rattle.inst_json.specs.Replies.{reply_data, reply_can_be_written}
use Rattle.inst_json.specs.StepLines.{step_line}

-- True if the number has 64 bits.
abbrev pub is_word : ℕ → Bool
is_word n = nat_lt n (2 ^ 64)

-- True if the entry's numbers have 64 bits.
abbrev pub entry_has_words : HubSettings → Entry → Bool
entry_has_words s entry = is_word entry.cents && is_word (s.base + entry.deadline)

-- True if the reply's numbers have 64 bits, as the program's types have.
abbrev pub has_words : HubSettings → Reply → Bool
has_words s (reply.Done reference) = true
has_words s (reply.Taken id deadline) = is_word (s.base + deadline)
has_words s (reply.State from id state) = true
has_words s (reply.Inbox entries) = list_all (entry_has_words s) entries
has_words s (reply.Position position reserved available) =
    is_word position && is_word reserved && is_word available
has_words s (reply.Statement lines) = true
has_words s (reply.Refused fault) = true

-- A reply of a hub with these settings.
pub record IsReplyOf (s : HubSettings) (r : Reply) : Type 0 where
  pub settings : IsSettings s
  pub writable : reply_can_be_written s r ≡ true
  pub words : has_words s r ≡ true

-- The content of a text: a reply, or the texts of a statement's lines.
pub data Content : Type 0 where
  the_reply : Reply → Content
  the_lines : List (List ℕ) → Content

-- The content of a reply's text.
abbrev pub content_of : HubSettings → Reply → Content
content_of s (reply.Done reference) = the_reply (reply.Done reference)
content_of s (reply.Taken id deadline) = the_reply (reply.Taken id deadline)
content_of s (reply.State from id state) = the_reply (reply.State from id state)
content_of s (reply.Inbox entries) = the_reply (reply.Inbox entries)
content_of s (reply.Position position reserved available) =
    the_reply (reply.Position position reserved available)
content_of s (reply.Statement lines) = the_lines (map (line_text s) lines)
content_of s (reply.Refused fault) = the_reply (reply.Refused fault)

-- The text of a reply reads back as its object.
abbrev pub WhatIsWrittenReadsBack : Type 0
WhatIsWrittenReadsBack =
    (s : HubSettings) (r : Reply) → IsReplyOf s r →
    read (compact_text (reply_data s r)) ≡ Some (reply_data s r)

-- Two replies with the same text have the same content.
abbrev pub ATextTellsItsReply : Type 0
ATextTellsItsReply = (s : HubSettings) (a b : Reply) → IsReplyOf s a → IsReplyOf s b →
    compact_text (reply_data s a) ≡ compact_text (reply_data s b) → content_of s a ≡ content_of s b

-- True if the participant's code has the form of a code.
abbrev pub has_code : HubSettings → ℕ → Bool
has_code s number = is_code (code_numbered s number)

-- True if the numbers of a query are in range, as the program's types are.
abbrev pub query_has_form : Query → Bool
query_has_form query.Position = true
query_has_form (query.Statement skip count) = is_word skip

-- True if codes, identifiers, amounts, reasons and numbers have their form, as the program's types
-- have.
abbrev pub command_has_form : HubSettings → Command → Bool
command_has_form s (command.Fund funding) =
    is_identifier funding.reference && is_amount funding.cents
command_has_form s (command.Defund funding) =
    is_identifier funding.reference && is_amount funding.cents
command_has_form s (command.Submit x) = has_code s x.to && is_identifier x.id && is_amount x.cents
command_has_form s (command.Confirm from id) = has_code s from && is_identifier id
command_has_form s (command.Reject from id reason) =
    has_code s from && is_identifier id && is_reason reason
command_has_form s (command.Investigate id) = is_identifier id
command_has_form s (command.Fetch max) = true
command_has_form s (command.Query asked) = query_has_form asked

-- True if all parts of an ask have their form.
abbrev pub ask_has_form : HubSettings → Ask → Bool
ask_has_form s ask = has_code s ask.who && is_moment ask.at && command_has_form s ask.command

-- True if all parts of a step have their form.
abbrev pub step_has_form : HubSettings → Step → Bool
step_has_form s (step.Ask ask) = ask_has_form s ask
step_has_form s (step.Deliver from index to) = has_code s to && has_code s from
step_has_form s (step.Learn who from index) = has_code s who && has_code s from
step_has_form s (step.Expire who index at) = has_code s who && is_moment at

-- True if the place that a step names, if any, is one that some hub may have: 0 to 1,023.
abbrev pub has_place : Step → Bool
has_place (step.Ask ask) = true
has_place (step.Deliver from index to) = nat_lt index MOST_PLACES
has_place (step.Learn who from index) = nat_lt index MOST_PLACES
has_place (step.Expire who index at) = nat_lt index MOST_PLACES

-- A step of a hub with these settings, at a place that a line can name.
pub record IsStepOf (s : HubSettings) (x : Step) : Type 0 where
  pub settings : IsSettings s
  pub fits : step_fits s x ≡ true
  pub form : step_has_form s x ≡ true
  pub place : has_place x ≡ true

-- The line of a step reads back as the step.
abbrev pub WhatIsWrittenOfAStepReadsBack : Type 0
WhatIsWrittenOfAStepReadsBack =
    (s : HubSettings) (x : Step) → IsStepOf s x → step_of_line s (step_line s x) ≡ Ok x
