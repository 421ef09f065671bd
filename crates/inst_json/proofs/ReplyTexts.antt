-- The text of each reply's object, piece by piece, where its texts need no escape.
use Rattle.std.proofs.Common.{◌≡◌, ℕ, List, [], ◌∷◌, ◌++◌, refl, sym, ap, ◌∙◌, codes, decimal, append_assoc, drop, map, length, ◌≤◌, nat_lt, Bool, true, false, if◌then◌else◌}
use Rattle.std.proofs.lemmas.List.{drop_all}
use Rattle.json.specs.Print.{escape}
use Rattle.serde_json.specs.Data.{string}
use Rattle.serde_json.specs.Written.{compact_text, items_text}
use Rattle.serde_json.proofs.OnLiterals.{serde_json_on_literals}
use Rattle.inst_base.specs.Fault.{name_of, number_of}
use Rattle.inst_base.specs.declared.fault.Fault.{Fault}
use Rattle.inst_json.proofs.TextsWithoutEscapes.{escape-name_of}
use Rattle.inst_settings.specs.Settings.{HubSettings}
use Rattle.inst_command.specs.declared.entry.Entry.{Entry}
use Rattle.inst_command.specs.LineText.{line_text}
use Rattle.inst_command.specs.declared.line.Line.{Line}
use Rattle.inst_json.specs.Replies.{done_data, taken_data, state_data, rejected_data, position_data, refused_data, new_data, entry_members, entry_data, inbox_data, statement_data, items}

-- one piece more, behind what was put at the end of a text
pub one_more : (old pieces piece : List ℕ) {before after : List ℕ} → before ≡ old ++ pieces → after ≡ before ++ piece → after ≡ old ++ (pieces ++ piece)
one_more old pieces piece first next = next ∙ ap (λ t. t ++ piece) first ∙ append_assoc old pieces piece

pub done_line : (reference : List ℕ) → escape reference ≡ reference →
    (codes "{\"ref\":\"" ++ reference) ++ codes "\",\"reply\":\"done\"}" ≡ compact_text (done_data reference)
unfolding serde_json_on_literals
done_line reference plain = simp (plain, append_assoc)

pub taken_line : (id : List ℕ) (deadline : ℕ) → escape id ≡ id →
    (((codes "{\"deadline\":" ++ decimal deadline) ++ codes ",\"id\":\"") ++ id) ++ codes "\",\"reply\":\"taken\"}" ≡ compact_text (taken_data id deadline)
unfolding serde_json_on_literals
taken_line id deadline plain = simp (plain, append_assoc)

pub state_line : (from id name : List ℕ) → escape from ≡ from → escape id ≡ id → escape name ≡ name →
    (((((codes "{\"from\":\"" ++ from) ++ codes "\",\"id\":\"") ++ id) ++ codes "\",\"reply\":\"state\",\"state\":\"") ++ name) ++ codes "\"}" ≡ compact_text (state_data from id name)
unfolding serde_json_on_literals
state_line from id name plain_from plain_id plain_name = simp (plain_from, plain_id, plain_name, append_assoc)

pub rejected_line : (from id reason : List ℕ) → escape from ≡ from → escape id ≡ id → escape reason ≡ reason →
    (((((codes "{\"from\":\"" ++ from) ++ codes "\",\"id\":\"") ++ id) ++ codes "\",\"reason\":\"") ++ reason) ++ codes "\",\"reply\":\"state\",\"state\":\"rejected\"}" ≡ compact_text (rejected_data from id reason)
unfolding serde_json_on_literals
rejected_line from id reason plain_from plain_id plain_reason = simp (plain_from, plain_id, plain_reason, append_assoc)

abbrev pub entry_text : ℕ → ℕ → List ℕ → List ℕ → List ℕ
entry_text cents deadline from id =
    (((((((codes "{\"cents\":" ++ decimal cents) ++ codes ",\"deadline\":") ++ decimal deadline) ++ codes ",\"from\":\"") ++ from) ++ codes "\",\"id\":\"") ++ id) ++ codes "\"}"

pub entry_line : (cents deadline : ℕ) (from id : List ℕ) → escape from ≡ from → escape id ≡ id →
    entry_text cents deadline from id ≡ compact_text (entry_members cents deadline from id)
unfolding serde_json_on_literals
entry_line cents deadline from id plain_from plain_id = simp (plain_from, plain_id, append_assoc)

pub position_line : (position reserved available : ℕ) →
    (((((codes "{\"available\":" ++ decimal available) ++ codes ",\"position\":") ++ decimal position) ++ codes ",\"reply\":\"position\",\"reserved\":") ++ decimal reserved) ++ codes "}"
    ≡ compact_text (position_data position reserved available)
unfolding serde_json_on_literals
position_line position reserved available = simp append_assoc

pub refused_line : (fault : Fault) →
    (((codes "{\"fault\":\"" ++ name_of fault) ++ codes "\",\"number\":") ++ decimal (number_of fault)) ++ codes ",\"reply\":\"refused\"}" ≡ compact_text (refused_data fault)
unfolding serde_json_on_literals
refused_line fault = simp (escape-name_of fault, append_assoc)

pub new_line : (new : Bool) →
    (codes "{\"new\":" ++ (if new then codes "true" else codes "false")) ++ codes ",\"reply\":\"step\"}" ≡ compact_text (new_data new)
unfolding serde_json_on_literals
new_line true = refl
new_line false = refl

-- an array's text with its closing bracket, and what comes behind it
closing : (old text front items tail : List ℕ) → text ++ 93 ∷ [] ≡ old ++ (front ++ items) → text ++ 93 ∷ tail ≡ old ++ (front ++ (items ++ tail))
closing old text front items tail e =
    sym (append_assoc text (93 ∷ []) tail) ∙ ap (λ t. t ++ tail) e ∙ append_assoc old (front ++ items) tail ∙ ap (λ t. old ++ t) (append_assoc front items tail)

pub inbox_line : (s : HubSettings) (entries : List Entry) (old text : List ℕ) (index : ℕ) → length entries ≤ index →
    text ++ items_text (nat_lt 0 index) (items (map (entry_data s) (drop index entries))) ≡ old ++ (codes "{\"entries\":[" ++ items_text false (items (map (entry_data s) entries))) →
    text ++ codes "],\"reply\":\"inbox\"}" ≡ old ++ compact_text (inbox_data s entries)
unfolding serde_json_on_literals
inbox_line s entries old text index past e =
    closing old text (codes "{\"entries\":[") (items_text false (items (map (entry_data s) entries))) (codes ",\"reply\":\"inbox\"}") (rw (drop_all index entries past) at e)

pub statement_line : (s : HubSettings) (lines : List Line) (old text : List ℕ) (index : ℕ) → length lines ≤ index →
    text ++ items_text (nat_lt 0 index) (items (map (λ line. string (line_text s line)) (drop index lines))) ≡ old ++ (codes "{\"lines\":[" ++ items_text false (items (map (λ line. string (line_text s line)) lines))) →
    text ++ codes "],\"reply\":\"statement\"}" ≡ old ++ compact_text (statement_data s lines)
unfolding serde_json_on_literals
statement_line s lines old text index past e =
    closing old text (codes "{\"lines\":[") (items_text false (items (map (λ line. string (line_text s line)) lines))) (codes ",\"reply\":\"statement\"}") (rw (drop_all index lines past) at e)

pub quoted_line : (line : List ℕ) → escape line ≡ line → codes "\"" ++ (line ++ codes "\"") ≡ compact_text (string line)
quoted_line line plain = rw plain refl
