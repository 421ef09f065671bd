-- What is written of a reply reads back as the reply's object.
use Rattle.std.proofs.Common.{◌≡◌, Bool, ℕ, ◌+◌, ◌<◌, ◌≤◌, ◌^◌, true, ◌&&◌, List, [], ◌∷◌, map, Some, option_and_then, decimal, refl, sym, ap, ◌∙◌, append-nil, arith}
use Rattle.std.proofs.lemmas.Bool.{and_parts}
use Rattle.std.proofs.lemmas.Bool.Decides.{nat_tests}
use Rattle.std.specs.List.{list_all}
use Rattle.json.specs.Json as json
use Rattle.json.specs.Lex.{tokens}
use Rattle.json.specs.Tree as tree
use Rattle.json.proofs.Printed.Tokens.{tokens-print}
use Rattle.json.proofs.Printed.Trees.{ArePrintable-json_tokens, value-json_tokens}
use Rattle.json.proofs.Printed.Decimals.{IsNumber-decimal}
use Rattle.serde_json.specs.Data.{Data, string, unsigned}
use Rattle.serde_json.specs.Read.{read, of_json, of_items, number_of, max_depth}
use Rattle.serde_json.specs.Written.{compact_text, outline, items_outline}
use Rattle.serde_json.proofs.Numbers.{number_of-decimal}
use Rattle.serde_json.proofs.Texts.{print-outline}
use Rattle.serde_json.proofs.OnLiterals.{serde_json_on_literals}
use Rattle.inst_base.specs.Fault.{number_of as fault_number}
use Rattle.inst_base.specs.declared.fault.Fault.{Fault}
use Rattle.inst_base.specs.declared.fault.Fault.TheVariants.{NotJson, BadField, BadIdentifier, BadAmount, BadMoment, UnknownParticipant, SelfTransfer, UnknownTransfer, Duplicate, StampAhead, Expired, Full, Shortage, Memory, BadSettings, LineTooLong, ReadFault, WriteFault}
use Rattle.inst_settings.specs.Settings.{HubSettings}
use Rattle.inst_command.specs.LineText.{line_text, code_numbered}
use Rattle.inst_command.specs.declared.outcome.Outcome.TheVariants.{Accepted, Rejected, TimedOut}
use Rattle.inst_command.specs.declared.outcome.State.{State}
use Rattle.inst_command.specs.declared.outcome.State.TheVariants as state
use Rattle.inst_command.specs.declared.entry.Entry.{Entry}
use Rattle.inst_command.specs.declared.line.Line.{Line}
use Rattle.inst_command.specs.declared.reply.Answer.{Answer}
use Rattle.inst_command.specs.declared.reply.Answer.TheVariants as answer
use Rattle.inst_command.specs.declared.reply.Reply.{Reply}
use Rattle.inst_command.specs.declared.reply.Reply.TheVariants as reply
use Rattle.inst_json.specs.Replies.{items, entry_data, new_data, answer_data, reply_data, state_members}
use Rattle.inst_json.specs.Laws.{is_word, entry_has_words, has_words, IsReplyOf}

-- what a value needs for its text to be read back as it
pub record ReadsBack (d : Data) : Type 0 where
  pub numbers : tree.HasNumbers (outline d)
  pub again : of_json (outline d) ≡ Some d
  pub shallow : tree.depth (outline d) ≤ 3

pub from_parts : (d : Data) → ReadsBack d → read (compact_text d) ≡ Some d
from_parts d r =
    let ts = tree.json_tokens (outline d) in
    let lexed : tokens (compact_text d) ≡ ts = ap tokens (sym (print-outline d)) ∙ tokens-print ts (ArePrintable-json_tokens (outline d) r.numbers) in
    let parsed : json.value max_depth (tokens (compact_text d)) ≡ Some (outline d, []) =
    ap (json.value max_depth) (lexed ∙ sym (append-nil ts)) ∙ value-json_tokens (outline d) max_depth [] (omega (arith, r.shallow)) in
    ap (λ o. option_and_then of_json (option_and_then (λ p. json.if_last p.0 p.1) o)) parsed ∙ r.again

pub word_below : (n : ℕ) → is_word n ≡ true → n < 2 ^ 64
word_below n h = grind (arith, nat_tests)

-- a number of 64 bits
pub read_word : (n : ℕ) → is_word n ≡ true → number_of (decimal n) ≡ Some (unsigned n)
read_word n h = number_of-decimal n (word_below n h)

fault_word : (fault : Fault) → is_word (fault_number fault) ≡ true
fault_word NotJson = refl
fault_word BadField = refl
fault_word BadIdentifier = refl
fault_word BadAmount = refl
fault_word BadMoment = refl
fault_word UnknownParticipant = refl
fault_word SelfTransfer = refl
fault_word UnknownTransfer = refl
fault_word Duplicate = refl
fault_word StampAhead = refl
fault_word Expired = refl
fault_word Full = refl
fault_word Shortage = refl
fault_word Memory = refl
fault_word BadSettings = refl
fault_word LineTooLong = refl
fault_word ReadFault = refl
fault_word WriteFault = refl

-- entries, each of which reads back
entries_numbers : (s : HubSettings) (entries : List Entry) → list_all (entry_has_words s) entries ≡ true → tree.ItemsHaveNumbers (items_outline (items (map (entry_data s) entries)))
entries_numbers s [] h = tt
entries_numbers s (entry ∷ entries) h =
    let parts = and_parts (entry_has_words s entry) (list_all (entry_has_words s) entries) h in
    let words = and_parts (is_word entry.cents) (is_word (s.base + entry.deadline)) parts.0 in
    ((IsNumber-decimal entry.cents (word_below _ words.0), (IsNumber-decimal (s.base + entry.deadline) (word_below _ words.1), (tt, (tt, tt)))), entries_numbers s entries parts.1)

entries_again : (s : HubSettings) (entries : List Entry) → list_all (entry_has_words s) entries ≡ true → of_items (items_outline (items (map (entry_data s) entries))) ≡ Some (items (map (entry_data s) entries))
unfolding serde_json_on_literals
entries_again s [] h = refl
entries_again s (entry ∷ entries) h =
    let parts = and_parts (entry_has_words s entry) (list_all (entry_has_words s) entries) h in
    let words = and_parts (is_word entry.cents) (is_word (s.base + entry.deadline)) parts.0 in
    rw (read_word entry.cents words.0, read_word (s.base + entry.deadline) words.1, entries_again s entries parts.1) refl

entries_depth : (s : HubSettings) (entries : List Entry) → tree.items_depth (items_outline (items (map (entry_data s) entries))) ≤ 1
entries_depth s [] = omega arith
entries_depth s (entry ∷ entries) = omega (arith, entries_depth s entries)

-- texts, each of which reads back
texts_numbers : (s : HubSettings) (lines : List Line) → tree.ItemsHaveNumbers (items_outline (items (map (λ line. string (line_text s line)) lines)))
texts_numbers s [] = tt
texts_numbers s (line ∷ lines) = (tt, texts_numbers s lines)

texts_again : (s : HubSettings) (lines : List Line) → of_items (items_outline (items (map (λ line. string (line_text s line)) lines))) ≡ Some (items (map (λ line. string (line_text s line)) lines))
texts_again s [] = refl
texts_again s (line ∷ lines) = rw (texts_again s lines) refl

texts_depth : (s : HubSettings) (lines : List Line) → tree.items_depth (items_outline (items (map (λ line. string (line_text s line)) lines))) ≡ 0
texts_depth s [] = refl
texts_depth s (line ∷ lines) = omega (arith, texts_depth s lines)

state_reads : (from id : List ℕ) (state : State) → ReadsBack (state_members from id state)
unfolding serde_json_on_literals
state_reads from id state.Unused = record { numbers = (tt, (tt, (tt, (tt, tt)))); again = refl; shallow = omega arith }
state_reads from id state.Pending = record { numbers = (tt, (tt, (tt, (tt, tt)))); again = refl; shallow = omega arith }
state_reads from id (state.Decided Accepted) = record { numbers = (tt, (tt, (tt, (tt, tt)))); again = refl; shallow = omega arith }
state_reads from id (state.Decided (Rejected reason)) = record { numbers = (tt, (tt, (tt, (tt, (tt, tt))))); again = refl; shallow = omega arith }
state_reads from id (state.Decided TimedOut) = record { numbers = (tt, (tt, (tt, (tt, tt)))); again = refl; shallow = omega arith }

reply_reads : (s : HubSettings) (r : Reply) → has_words s r ≡ true → ReadsBack (reply_data s r)
unfolding serde_json_on_literals
reply_reads s (reply.Done reference) h = record { numbers = (tt, (tt, tt)); again = refl; shallow = omega arith }
reply_reads s (reply.Taken id deadline) h = record {
  numbers = (IsNumber-decimal (s.base + deadline) (word_below _ h), (tt, (tt, tt)));
  again = rw (read_word (s.base + deadline) h) refl;
  shallow = omega arith;
}
reply_reads s (reply.State from id state) h = state_reads (code_numbered s from) id state
reply_reads s (reply.Inbox entries) h =
    record {
      numbers = (entries_numbers s entries h, (tt, tt));
      again = rw (entries_again s entries h) refl;
      shallow = omega (arith, entries_depth s entries);
    }
reply_reads s (reply.Position position reserved available) h =
    let first = and_parts (is_word position && is_word reserved) (is_word available) h in
    let others = and_parts (is_word position) (is_word reserved) first.0 in record {
      numbers = (IsNumber-decimal available (word_below _ first.1), (IsNumber-decimal position (word_below _ others.0), (tt, (IsNumber-decimal reserved (word_below _ others.1), tt))));
      again = rw (read_word available first.1, read_word position others.0, read_word reserved others.1) refl;
      shallow = omega arith;
    }
reply_reads s (reply.Statement lines) h =
    record {
      numbers = (texts_numbers s lines, (tt, tt));
      again = rw (texts_again s lines) refl;
      shallow = omega (arith, texts_depth s lines);
    }
reply_reads s (reply.Refused fault) h = record {
  numbers = (tt, (IsNumber-decimal (fault_number fault) (word_below _ (fault_word fault)), (tt, tt)));
  again = rw (read_word (fault_number fault) (fault_word fault)) refl;
  shallow = omega arith;
}

pub words_read_back : (s : HubSettings) (r : Reply) → has_words s r ≡ true → read (compact_text (reply_data s r)) ≡ Some (reply_data s r)
words_read_back s r words = from_parts (reply_data s r) (reply_reads s r words)

pub reads_back : (s : HubSettings) (r : Reply) → IsReplyOf s r → read (compact_text (reply_data s r)) ≡ Some (reply_data s r)
reads_back s r given = words_read_back s r given.words

new_reads : (new : Bool) → ReadsBack (new_data new)
unfolding serde_json_on_literals
new_reads new = record { numbers = (tt, (tt, tt)); again = refl; shallow = omega arith }

new_reads_back : (new : Bool) → read (compact_text (new_data new)) ≡ Some (new_data new)
new_reads_back new = from_parts (new_data new) (new_reads new)

pub answer_reads_back : (s : HubSettings) (a : Answer) → ((r : Reply) → a ≡ answer.Reply r → has_words s r ≡ true) → read (compact_text (answer_data s a)) ≡ Some (answer_data s a)
answer_reads_back s (answer.Reply r) words = words_read_back s r (words r refl)
answer_reads_back s (answer.New new) words = new_reads_back new
