-- A reply's text tells the reply: its object can be read back into it.
use Rattle.std.proofs.Common.{◌≡◌, ℕ, zero, suc, ◌+◌, ◌-◌, ◌==◌, Bool, true, true≢false, cond, List, [], ◌∷◌, map, slice_get, unwrap_or, refl, sym, ap, ◌∙◌, arith, codes}
use Rattle.std.proofs.lemmas.Bool.{and_parts}
use Rattle.std.specs.List.{list_all}
use Rattle.serde_json.specs.Data.{Data, null, boolean, number, string, array, object, Num, unsigned, negative, float, Items, no_items, item, Members, no_members, member}
use Rattle.serde_json.specs.Read.{read}
use Rattle.serde_json.specs.Written.{compact_text}
use Rattle.inst_base.specs.Fault.{number_of}
use Rattle.inst_base.specs.declared.fault.Fault.{Fault}
use Rattle.inst_base.specs.declared.fault.Fault.TheVariants.{NotJson, BadField, BadIdentifier, BadAmount, BadMoment, UnknownParticipant, SelfTransfer, UnknownTransfer, Duplicate, StampAhead, Expired, Full, Shortage, Memory, BadSettings, LineTooLong, ReadFault, WriteFault}
use Rattle.inst_settings.specs.Settings.{HubSettings, same_text, is_participant}
use Rattle.inst_settings.specs.Lawful.{IsSettings}
use Rattle.inst_settings.proofs.CodeTellsNumber.{number_of_code, number_of_code-at}
use Rattle.inst_command.specs.LineText.{line_text, code_numbered}
use Rattle.inst_command.specs.declared.outcome.Outcome.TheVariants.{Accepted, Rejected, TimedOut}
use Rattle.inst_command.specs.declared.outcome.State.{State}
use Rattle.inst_command.specs.declared.outcome.State.TheVariants as state
use Rattle.inst_command.specs.declared.entry.Entry.{Entry}
use Rattle.inst_command.specs.declared.line.Line.{Line}
use Rattle.inst_command.specs.declared.reply.Reply.{Reply}
use Rattle.inst_command.specs.declared.reply.Reply.TheVariants as reply
use Rattle.inst_json.specs.Replies.{items, entry_data, reply_data, reply_can_be_written, state_members, is_used}
use Rattle.inst_json.specs.Laws.{IsReplyOf, Content, the_reply, the_lines, content_of}
use Rattle.inst_json.proofs.ReplyReadsBack.{reads_back}

code_numbered-number : (s : HubSettings) (i : ℕ) → IsSettings s → is_participant s i ≡ true → number_of_code s.codes (code_numbered s i) ≡ i
code_numbered-number s i lawful known = number_of_code-at s.codes i lawful.different known

-- ---- what stands in an object

abbrev text_in : Data → List ℕ
text_in null = []
text_in (boolean b) = []
text_in (number n) = []
text_in (string text) = text
text_in (array rest) = []
text_in (object rows) = []

abbrev word_of : Num → ℕ
word_of (unsigned n) = n
word_of (negative z) = 0
word_of (float x) = 0

abbrev word_in : Data → ℕ
word_in null = 0
word_in (boolean b) = 0
word_in (number n) = word_of n
word_in (string text) = 0
word_in (array rest) = 0
word_in (object rows) = 0

abbrev items_in : Data → Items
items_in null = no_items
items_in (boolean b) = no_items
items_in (number n) = no_items
items_in (string text) = no_items
items_in (array rest) = rest
items_in (object rows) = no_items

abbrev rows_in : Data → Members
rows_in null = no_members
rows_in (boolean b) = no_members
rows_in (number n) = no_members
rows_in (string text) = no_members
rows_in (array rest) = no_members
rows_in (object rows) = rows

abbrev row_of : ℕ → Members → Data
row_of k no_members = null
row_of zero (member name d rows) = d
row_of (suc k) (member name d rows) = row_of k rows

abbrev first_name : Members → List ℕ
first_name no_members = []
first_name (member name d rows) = name

abbrev count_rows : Members → ℕ
count_rows no_members = 0
count_rows (member name d rows) = suc (count_rows rows)

-- the value in the row with this number
abbrev row : ℕ → Data → Data
row k d = row_of k (rows_in d)

abbrev begins_by : List ℕ → Data → Bool
begins_by name d = same_text (first_name (rows_in d)) name

-- ---- from the object to what it tells

abbrev state_named : List ℕ → State
state_named name =
    cond (same_text name (codes "pending")) state.Pending
    (cond (same_text name (codes "accepted")) (state.Decided Accepted)
    (cond (same_text name (codes "timed_out")) (state.Decided TimedOut) state.Unused))

abbrev state_in : Data → State
state_in d = cond (count_rows (rows_in d) == 5) (state.Decided (Rejected (text_in (row 2 d)))) (state_named (text_in (row 3 d)))

abbrev entries_in : HubSettings → Items → List Entry
entries_in s no_items = []
entries_in s (item d rest) = record { from = number_of_code s.codes (text_in (row 2 d)); id = text_in (row 3 d); cents = word_in (row 0 d); deadline = word_in (row 1 d) - s.base } ∷ entries_in s rest

abbrev texts_in : Items → List (List ℕ)
texts_in no_items = []
texts_in (item d rest) = text_in d ∷ texts_in rest

abbrev fault_numbered : ℕ → Fault
fault_numbered n =
    unwrap_or (slice_get (NotJson ∷ NotJson ∷ BadField ∷ BadIdentifier ∷ BadAmount ∷ BadMoment ∷ UnknownParticipant ∷ SelfTransfer ∷ UnknownTransfer ∷ Duplicate ∷ StampAhead ∷ Expired ∷ Full ∷ Shortage ∷ Memory ∷ BadSettings ∷ LineTooLong ∷ ReadFault ∷ WriteFault ∷ []) n) NotJson

fault_numbered-number : (fault : Fault) → fault_numbered (number_of fault) ≡ fault
fault_numbered-number NotJson = refl
fault_numbered-number BadField = refl
fault_numbered-number BadIdentifier = refl
fault_numbered-number BadAmount = refl
fault_numbered-number BadMoment = refl
fault_numbered-number UnknownParticipant = refl
fault_numbered-number SelfTransfer = refl
fault_numbered-number UnknownTransfer = refl
fault_numbered-number Duplicate = refl
fault_numbered-number StampAhead = refl
fault_numbered-number Expired = refl
fault_numbered-number Full = refl
fault_numbered-number Shortage = refl
fault_numbered-number Memory = refl
fault_numbered-number BadSettings = refl
fault_numbered-number LineTooLong = refl
fault_numbered-number ReadFault = refl
fault_numbered-number WriteFault = refl

abbrev content_in : HubSettings → Data → Content
content_in s d =
    cond (begins_by (codes "ref") d) (the_reply (reply.Done (text_in (row 0 d))))
    (cond (begins_by (codes "deadline") d) (the_reply (reply.Taken (text_in (row 1 d)) (word_in (row 0 d) - s.base)))
    (cond (begins_by (codes "from") d) (the_reply (reply.State (number_of_code s.codes (text_in (row 0 d))) (text_in (row 1 d)) (state_in d)))
    (cond (begins_by (codes "entries") d) (the_reply (reply.Inbox (entries_in s (items_in (row 0 d)))))
    (cond (begins_by (codes "available") d) (the_reply (reply.Position (word_in (row 1 d)) (word_in (row 3 d)) (word_in (row 0 d))))
    (cond (begins_by (codes "fault") d) (the_reply (reply.Refused (fault_numbered (word_in (row 1 d)))))
    (the_lines (texts_in (items_in (row 0 d)))))))))

-- ---- it is what the reply tells

pub past_base : (base moment : ℕ) → (base + moment) - base ≡ moment
past_base base moment = omega arith

entries_again : (s : HubSettings) (entries : List Entry) → IsSettings s → list_all (λ entry. is_participant s entry.from) entries ≡ true → entries_in s (items (map (entry_data s) entries)) ≡ entries
entries_again s [] lawful known = refl
entries_again s (entry ∷ entries) lawful known =
    let parts = and_parts (is_participant s entry.from) (list_all (λ entry. is_participant s entry.from) entries) known in
    rw (code_numbered-number s entry.from lawful parts.0, past_base s.base entry.deadline, entries_again s entries lawful parts.1) refl

texts_again : (s : HubSettings) (lines : List Line) → texts_in (items (map (λ line. string (line_text s line)) lines)) ≡ map (line_text s) lines
texts_again s [] = refl
texts_again s (line ∷ lines) = ap (λ texts. line_text s line ∷ texts) (texts_again s lines)

state_again : (s : HubSettings) (code id : List ℕ) (from : ℕ) (state : State) → number_of_code s.codes code ≡ from → is_used state ≡ true → content_in s (state_members code id state) ≡ the_reply (reply.State from id state)
state_again s code id from state.Unused named used = absurd (true≢false (sym used))
state_again s code id from state.Pending named used = ap (λ n. the_reply (reply.State n id state.Pending)) named
state_again s code id from (state.Decided Accepted) named used = ap (λ n. the_reply (reply.State n id (state.Decided Accepted))) named
state_again s code id from (state.Decided (Rejected reason)) named used = ap (λ n. the_reply (reply.State n id (state.Decided (Rejected reason)))) named
state_again s code id from (state.Decided TimedOut) named used = ap (λ n. the_reply (reply.State n id (state.Decided TimedOut))) named

data_tells : (s : HubSettings) (r : Reply) → IsSettings s → reply_can_be_written s r ≡ true → content_in s (reply_data s r) ≡ content_of s r
data_tells s (reply.Done reference) lawful written = refl
data_tells s (reply.Taken id deadline) lawful written = ap (λ n. the_reply (reply.Taken id n)) (past_base s.base deadline)
data_tells s (reply.State from id state) lawful written =
    let parts = and_parts (is_participant s from) (is_used state) written in
    state_again s (code_numbered s from) id from state (code_numbered-number s from lawful parts.0) parts.1
data_tells s (reply.Inbox entries) lawful written = ap (λ es. the_reply (reply.Inbox es)) (entries_again s entries lawful written)
data_tells s (reply.Position position reserved available) lawful written = refl
data_tells s (reply.Statement lines) lawful written = ap the_lines (texts_again s lines)
data_tells s (reply.Refused fault) lawful written = ap (λ f. the_reply (reply.Refused f)) (fault_numbered-number fault)

pub text_tells : (s : HubSettings) (a b : Reply) → IsReplyOf s a → IsReplyOf s b → compact_text (reply_data s a) ≡ compact_text (reply_data s b) → content_of s a ≡ content_of s b
text_tells s a b of_a of_b same =
    let objects : reply_data s a ≡ reply_data s b = ap (λ o. unwrap_or o null) (sym (reads_back s a of_a) ∙ ap read same ∙ reads_back s b of_b) in
    sym (data_tells s a of_a.settings of_a.writable) ∙ ap (content_in s) objects ∙ data_tells s b of_b.settings of_b.writable
