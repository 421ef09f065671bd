-- The members of a JSON object (RFC 8259) as text, where no name and no text needs an escape.
use Rattle.std.specs.Prelude.{ℕ, Bool, not, ◌&&◌, ◌==◌, nat_le, List, [], ◌∷◌, ◌++◌}
use Rattle.std.specs.List.{list_all}
use Rattle.json.specs.Print.{quoted}
use Rattle.serde_json.specs.Data.{Data}
use Rattle.serde_json.specs.Written.{compact_text}

-- True for a printable ASCII byte.
abbrev pub is_printable : ℕ → Bool
is_printable b = nat_le 32 b && nat_le b 126

-- True for a character that needs no escape: printable, and neither a quotation mark nor a
-- backslash.
abbrev pub is_plain_character : ℕ → Bool
is_plain_character b = is_printable b && not (b == 34) && not (b == 92)

-- True if no character of the text needs an escape.
abbrev pub is_plain : List ℕ → Bool
is_plain = list_all is_plain_character

-- The opening brace of an object, and its first member.
unfoldable pub first_member : List ℕ → Data → List ℕ
first_member name d = 123 ∷ (quoted name ++ 58 ∷ compact_text d)

-- A further member, with the comma before it.
unfoldable pub next_member : List ℕ → Data → List ℕ
next_member name d = 44 ∷ (quoted name ++ 58 ∷ compact_text d)

-- Several further members.
abbrev pub next_members : List (List ℕ × Data) → List ℕ
next_members [] = []
next_members (row ∷ rows) = next_member row.0 row.1 ++ next_members rows
