-- The token of a value that is neither an array nor an object (JSON, RFC 8259), and the value of a
-- field.
use Rattle.std.specs.Prelude.{◌≡◌, ℕ, List, ◌∷◌, Option, Some, None, Bool, false, ◌&&◌, nat_lt}
use Rattle.json.specs.Run.{is_plain}
use Rattle.json.specs.Token.{Token}
use Rattle.json.specs.Lex.{Lexeme, token, fresh, after_value, begins_colon, punctuate}
use Rattle.json.specs.Json.{value}
use Rattle.serde_json.specs.Data.{Data, null, string, number, unsigned}
use Rattle.serde_json.specs.Read.{of_json, converted}
use Rattle.inst_json.specs.declared.scanning.fields.Field.{Field}
use Rattle.inst_json.specs.declared.scanning.fields.Field.TheVariants as field

-- The token is the value d wherever a value may be.
pub record IsScalar (t : Token) (d : Data) : Type 0 where
  pub denotes : (depth : ℕ) (rest : List Token) →
      converted of_json (value depth (t ∷ rest)) ≡ Some (d, rest)
  pub placed : (ls : List Lexeme) → begins_colon ls ≡ false →
      punctuate fresh (token t ∷ ls) ≡ t ∷ punctuate after_value ls

-- A byte of a text that is ASCII and needs no escape.
abbrev pub is_text : ℕ → Bool
is_text x = is_plain x && nat_lt x 128

-- A value with the same content as the field. Null is used for anything but a text or a whole
-- number.
abbrev pub data_of : Field → Option Data
data_of field.Missing = None
data_of (field.Text s) = Some (string s.now)
data_of (field.Whole n) = Some (number (unsigned n))
data_of field.Other = Some null
