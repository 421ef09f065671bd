-- The members of an event's object as text, without proof that nothing in them needs an escape.
use Rattle.std.specs.Prelude.{ℕ, List, ◌++◌, codes, decimal}

-- The beginning of an object, with the participant whose book it is in.
abbrev pub begin_text : List ℕ → List ℕ
begin_text book = codes "{\"book\":\"" ++ book ++ codes "\""

-- A further member that is a text.
abbrev pub text_member : List ℕ → List ℕ → List ℕ
text_member name text = codes ",\"" ++ name ++ codes "\":\"" ++ text ++ codes "\""

-- A further member that is a whole number.
abbrev pub whole_member : List ℕ → ℕ → List ℕ
whole_member name number = codes ",\"" ++ name ++ codes "\":" ++ decimal number
