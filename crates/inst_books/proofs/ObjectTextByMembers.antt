-- The text of an object that is put at the end of a text member by member, where nothing of it has to be escaped.
use Rattle.std.proofs.Common.{◌≡◌, ℕ, true, List, [], ◌∷◌, ◌++◌, refl, sym, ap, ap₂, ◌∙◌, codes, decimal, append_assoc}
use Rattle.std.proofs.lemmas.List.{append-nil}
use Rattle.json.specs.Print.{escape, escape_byte, quoted}
use Rattle.serde_json.specs.Data.{Data, object, string}
use Rattle.serde_json.specs.Written.{compact_text, members_text}
use Rattle.inst_json.specs.Replies.{members, whole}
use Rattle.inst_json.proofs.TextsWithoutEscapes.{escape-among}
use Rattle.inst_books.specs.inner.Members.{begin_text, text_member, whole_member}
use Rattle.inst_books.specs.Events.{in_book}
use Rattle.inst_books.specs.inner.Events.{is_name}

pub escape-name : (name : List ℕ) → is_name name ≡ true → escape name ≡ name
unfolding escape_byte
escape-name name h = escape-among name (codes "funded" ∷ codes "defunded" ∷ codes "accepted" ∷ codes "timed_out" ∷ []) (refl, (refl, (refl, (refl, tt)))) h

-- one member, behind others
abbrev pub more : List ℕ → Data → List ℕ
more name d = 44 ∷ (quoted name ++ 58 ∷ compact_text d)

abbrev pub mores : List (List ℕ × Data) → List ℕ
mores [] = []
mores (row ∷ rows) = more row.0 row.1 ++ mores rows

mores-append : (rows : List (List ℕ × Data)) (name : List ℕ) (d : Data) → mores (rows ++ (name, d) ∷ []) ≡ mores rows ++ more name d
mores-append [] name d = append-nil (more name d)
mores-append (row ∷ rows) name d =
    ap (λ (t : List ℕ). more row.0 row.1 ++ t) (mores-append rows name d) ∙ sym (append_assoc (more row.0 row.1) (mores rows) (more name d))

-- the begin of an object, and these members
abbrev pub so_far : List ℕ → List (List ℕ × Data) → List ℕ
so_far book rows = (123 ∷ (quoted (codes "book") ++ 58 ∷ compact_text (string book))) ++ mores rows

members_are : (rows : List (List ℕ × Data)) → mores rows ++ 125 ∷ [] ≡ members_text true (members rows)
members_are [] = refl
members_are (row ∷ rows) =
    let name = quoted row.0 in
    let value = compact_text row.1 in
    ap (λ (t : List ℕ). 44 ∷ t) (append_assoc (name ++ 58 ∷ value) (mores rows) (125 ∷ []) ∙ append_assoc name (58 ∷ value) (mores rows ++ 125 ∷ [])
    ∙ ap (λ (t : List ℕ). name ++ 58 ∷ (value ++ t)) (members_are rows))

-- with its end it is the text of the object
pub whole_object : (book : List ℕ) (rows : List (List ℕ × Data)) → so_far book rows ++ 125 ∷ [] ≡ compact_text (object (members (in_book book ∷ rows)))
whole_object book rows =
    let name = quoted (codes "book") in
    let value = compact_text (string book) in
    ap (λ (t : List ℕ). 123 ∷ t) (append_assoc (name ++ 58 ∷ value) (mores rows) (125 ∷ []) ∙ append_assoc name (58 ∷ value) (mores rows ++ 125 ∷ [])
    ∙ ap (λ (t : List ℕ). name ++ 58 ∷ (value ++ t)) (members_are rows))

text_is : (name text : List ℕ) → escape name ≡ name → escape text ≡ text → text_member name text ≡ more name (string text)
text_is name text plain_name plain_text =
    append_assoc ((44 ∷ 34 ∷ name) ++ 34 ∷ 58 ∷ 34 ∷ []) text (34 ∷ []) ∙ append_assoc (44 ∷ 34 ∷ name) (34 ∷ 58 ∷ 34 ∷ []) (text ++ 34 ∷ [])
    ∙ sym (append_assoc (44 ∷ 34 ∷ name) (34 ∷ []) (58 ∷ 34 ∷ (text ++ 34 ∷ [])))
    ∙ ap₂ (λ (n t : List ℕ). 44 ∷ ((34 ∷ (n ++ 34 ∷ [])) ++ 58 ∷ 34 ∷ (t ++ 34 ∷ []))) (sym plain_name) (sym plain_text)

whole_is : (name : List ℕ) (number : ℕ) → escape name ≡ name → whole_member name number ≡ more name (whole number)
whole_is name number plain =
    append_assoc (44 ∷ 34 ∷ name) (34 ∷ 58 ∷ []) (decimal number)
    ∙ sym (append_assoc (44 ∷ 34 ∷ name) (34 ∷ []) (58 ∷ decimal number))
    ∙ ap (λ (n : List ℕ). 44 ∷ ((34 ∷ (n ++ 34 ∷ [])) ++ 58 ∷ decimal number)) (sym plain)

module _ (old book : List ℕ) where
  -- behind the old text stand the begin of an object and these members
  abbrev pub Has : List (List ℕ × Data) → List ℕ → Type 0
  Has rows text = text ≡ old ++ so_far book rows

  pub begun : {after : List ℕ} → escape book ≡ book → after ≡ old ++ begin_text book → Has [] after
  unfolding escape_byte
  begun plain is = is ∙ ap (λ (t : List ℕ). old ++ t) (
      ap (λ (b : List ℕ). (codes "{\"book\":\"" ++ b) ++ 34 ∷ []) (sym plain) ∙ sym (append-nil ((codes "{\"book\":\"" ++ escape book) ++ 34 ∷ [])))

  next : (rows : List (List ℕ × Data)) (name : List ℕ) (d : Data) {before after : List ℕ} → Has rows before → after ≡ before ++ more name d → Has (rows ++ (name, d) ∷ []) after
  next rows name d has is =
      let first : List ℕ = 123 ∷ (quoted (codes "book") ++ 58 ∷ compact_text (string book)) in
      is ∙ ap (λ (t : List ℕ). t ++ more name d) has ∙ append_assoc old (so_far book rows) (more name d)
      ∙ ap (λ (t : List ℕ). old ++ t) (append_assoc first (mores rows) (more name d) ∙ ap (λ (t : List ℕ). first ++ t) (sym (mores-append rows name d)))

  pub text_next : (rows : List (List ℕ × Data)) (name text : List ℕ) {before after : List ℕ} → escape name ≡ name → escape text ≡ text →
      Has rows before → after ≡ before ++ text_member name text → Has (rows ++ (name, string text) ∷ []) after
  text_next rows name text {before} plain_name plain_text has is =
      next rows name (string text) has (is ∙ ap (λ (t : List ℕ). before ++ t) (text_is name text plain_name plain_text))

  pub whole_next : (rows : List (List ℕ × Data)) (name : List ℕ) (number : ℕ) {before after : List ℕ} → escape name ≡ name →
      Has rows before → after ≡ before ++ whole_member name number → Has (rows ++ (name, whole number) ∷ []) after
  whole_next rows name number {before} plain has is =
      next rows name (whole number) has (is ∙ ap (λ (t : List ℕ). before ++ t) (whole_is name number plain))

  pub ended : (rows : List (List ℕ × Data)) {before after : List ℕ} → Has rows before → after ≡ before ++ 125 ∷ [] → after ≡ old ++ compact_text (object (members (in_book book ∷ rows)))
  ended rows has is =
      is ∙ ap (λ (t : List ℕ). t ++ 125 ∷ []) has ∙ append_assoc old (so_far book rows) (125 ∷ []) ∙ ap (λ (t : List ℕ). old ++ t) (whole_object book rows)
