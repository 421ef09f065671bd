-- The texts of the hub stand in JSON as they are: no character of theirs needs an escape.
use Rattle.std.proofs.Common.{◌≡◌, ℕ, ◌≤◌, Bool, true, false, true≢false, List, [], ◌∷◌, ◌++◌, refl, sym, ap, ◌∙◌, arith, IsTrue, codes, inl, inr}
use Rattle.std.proofs.lemmas.Bool.Decides.{nat_tests}
use Rattle.std.specs.List.{list_all, list_any, AllByRecursion}
use Rattle.std.proofs.lemmas.Slice.Eq.{bytes_eq-Decides}
use Rattle.json.specs.Print.{escape, escape_byte}
use Rattle.json.proofs.Printed.Strings.{escape_byte_plain}
use Rattle.inst_base.specs.Text.{is_latin, is_code_character, is_code, is_identifier, is_reason}
use Rattle.inst_base.specs.Fault.{name_of}
use Rattle.inst_base.specs.declared.fault.Fault.{Fault}
use Rattle.inst_base.specs.declared.fault.Fault.TheVariants.{NotJson, BadField, BadIdentifier, BadAmount, BadMoment, UnknownParticipant, SelfTransfer, UnknownTransfer, Duplicate, StampAhead, Expired, Full, Shortage, Memory, BadSettings, LineTooLong, ReadFault, WriteFault}
use Rattle.inst_settings.specs.Settings.{same_text}
use Rattle.inst_json.specs.Members.{is_plain_character, is_plain}
use Rattle.inst_json.specs.inner.Replies.{is_state_name}
use Rattle.std.proofs.lemmas.Bool.{and_parts, or_cases}

-- a character that stands for itself
escape_byte-each : (p : ℕ → Bool) → ((x : ℕ) → p x ≡ true → 32 ≤ x) → p 34 ≡ false → p 92 ≡ false → (x : ℕ) → p x ≡ true → escape_byte x ≡ x ∷ []
escape_byte-each p above quote backslash x h =
    let no_quote = λ (e : x ≡ 34). true≢false (sym h ∙ ap p e ∙ quote) in
    let no_backslash = λ (e : x ≡ 92). true≢false (sym h ∙ ap p e ∙ backslash) in
    escape_byte_plain x no_quote no_backslash (above x h)

escape-each : (p : ℕ → Bool) → ((x : ℕ) → p x ≡ true → escape_byte x ≡ x ∷ []) → (xs : List ℕ) → list_all p xs ≡ true → escape xs ≡ xs
escape-each p plain [] h = refl
escape-each p plain (x ∷ xs) h =
    let parts = and_parts (p x) (list_all p xs) h in
    ap (λ front. front ++ escape xs) (plain x parts.0) ∙ ap (λ rest. x ∷ rest) (escape-each p plain xs parts.1)

is_latin-above : (x : ℕ) → is_latin x ≡ true → 32 ≤ x
is_latin-above x h = grind (arith, nat_tests)

is_code_character-above : (x : ℕ) → is_code_character x ≡ true → 32 ≤ x
is_code_character-above x h = grind (arith, nat_tests)

pub escape-identifier : (text : List ℕ) → IsTrue (is_identifier text) → escape text ≡ text
escape-identifier text h =
    let each = and_parts _ (list_all is_latin text) h in
    escape-each is_latin (escape_byte-each is_latin is_latin-above refl refl) text each.1

pub escape-latin : (text : List ℕ) → list_all is_latin text ≡ true → escape text ≡ text
escape-latin = escape-each is_latin (escape_byte-each is_latin is_latin-above refl refl)

escape-code_characters : (text : List ℕ) → list_all is_code_character text ≡ true → escape text ≡ text
escape-code_characters = escape-each is_code_character (escape_byte-each is_code_character is_code_character-above refl refl)

pub escape-code : (text : List ℕ) → IsTrue (is_code text) → escape text ≡ text
escape-code text h = escape-code_characters text (and_parts _ (list_all is_code_character text) h).1

pub escape-reason : (text : List ℕ) → IsTrue (is_reason text) → escape text ≡ text
escape-reason text h = escape-code_characters text (and_parts _ (list_all is_code_character text) h).1

pub escape-name_of : (fault : Fault) → escape (name_of fault) ≡ name_of fault
unfolding escape_byte
escape-name_of NotJson = refl
escape-name_of BadField = refl
escape-name_of BadIdentifier = refl
escape-name_of BadAmount = refl
escape-name_of BadMoment = refl
escape-name_of UnknownParticipant = refl
escape-name_of SelfTransfer = refl
escape-name_of UnknownTransfer = refl
escape-name_of Duplicate = refl
escape-name_of StampAhead = refl
escape-name_of Expired = refl
escape-name_of Full = refl
escape-name_of Shortage = refl
escape-name_of Memory = refl
escape-name_of BadSettings = refl
escape-name_of LineTooLong = refl
escape-name_of ReadFault = refl
escape-name_of WriteFault = refl

escape-same : (name wanted : List ℕ) → escape wanted ≡ wanted → same_text name wanted ≡ true → escape name ≡ name
escape-same name wanted plain h =
    let same : name ≡ wanted = (bytes_eq-Decides name wanted).0 h in
    ap escape same ∙ plain ∙ sym same

pub escape-among : (name : List ℕ) (names : List (List ℕ)) → AllByRecursion (λ wanted. escape wanted ≡ wanted) names → list_any (same_text name) names ≡ true → escape name ≡ name
escape-among name [] plain h = absurd (true≢false (sym h))
escape-among name (first ∷ rest) plain h =
    elim (or_cases (same_text name first) (list_any (same_text name) rest) h) [
      | inl here ↦ escape-same name first plain.0 here
      | inr later ↦ escape-among name rest plain.1 later
    ]

pub escape-state_name : (name : List ℕ) → is_state_name name ≡ true → escape name ≡ name
unfolding escape_byte
escape-state_name name h = escape-among name (codes "pending" ∷ codes "accepted" ∷ codes "timed_out" ∷ []) (refl, (refl, (refl, tt))) h

-- ---- plain texts

is_plain_character-above : (x : ℕ) → is_plain_character x ≡ true → 32 ≤ x
is_plain_character-above x h = grind (arith, nat_tests)

pub escape_plain : (text : List ℕ) → IsTrue (is_plain text) → escape text ≡ text
escape_plain = escape-each is_plain_character (escape_byte-each is_plain_character is_plain_character-above refl refl)

is_latin-plain : (x : ℕ) → is_latin x ≡ true → is_plain_character x ≡ true
is_latin-plain x h = grind (arith, nat_tests)

is_code_character-plain : (x : ℕ) → is_code_character x ≡ true → is_plain_character x ≡ true
is_code_character-plain x h = grind (arith, nat_tests)

pub each_weaker : (p q : ℕ → Bool) → ((x : ℕ) → p x ≡ true → q x ≡ true) → (text : List ℕ) → list_all p text ≡ true → list_all q text ≡ true
each_weaker p q one [] h = refl
each_weaker p q one (x ∷ text) h =
    let parts = and_parts (p x) (list_all p text) h in
    rw (one x parts.0, each_weaker p q one text parts.1) refl

pub plain_identifier : (text : List ℕ) → IsTrue (is_identifier text) → IsTrue (is_plain text)
plain_identifier text h = each_weaker is_latin is_plain_character is_latin-plain text (and_parts _ (list_all is_latin text) h).1

pub plain_code : (text : List ℕ) → IsTrue (is_code text) → IsTrue (is_plain text)
plain_code text h = each_weaker is_code_character is_plain_character is_code_character-plain text (and_parts _ (list_all is_code_character text) h).1

pub plain_reason : (text : List ℕ) → IsTrue (is_reason text) → IsTrue (is_plain text)
plain_reason text h = each_weaker is_code_character is_plain_character is_code_character-plain text (and_parts _ (list_all is_code_character text) h).1
