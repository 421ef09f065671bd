-- Where the members of an object, as they are read, show that the text is no JSON.
use Rattle.std.proofs.Common.{◌≡◌, ℕ, Bool, true, false, List, [], ◌∷◌, length, Option, Some, None, option_map, option_and_then, refl, ap, ◌∙◌}
use Rattle.std.proofs.lemmas.Bool.{false≢true}
use Rattle.json.specs.Token as tok
use Rattle.json.specs.Token.{Token, bad}
use Rattle.json.specs.Lex.{Lexeme, token, comma, colon, Place, fresh, after_value, after_comma, after_key, may_begin, if_allowed, place_token, punctuate}
use Rattle.json.specs.Json.{Json, value, members, parse_map, read_key, if_last}
use Rattle.json.proofs.Grammar.{members_no_key, members_fail}
use Rattle.serde_json.specs.Data.{Data, object, Members}
use Rattle.serde_json.specs.Read.{of_json, of_members, converted}
use Rattle.inst_json.specs.inner.Scalar.{IsScalar, data_of}
use Rattle.inst_json.specs.declared.scanning.fields.Field.{Field}
use Rattle.inst_json.proofs.Grammar.{converted_some, members_over, whole}
use Rattle.inst_json.proofs.OrderedMembers.{Reading, member_read_on}
use Rattle.inst_json.proofs.TokensByFirstByte.{NoComma}

unmapped : (r : List Token) (o : Option Data) → option_map {U = Data × List Token} (λ b. (b, r)) o ≡ None → o ≡ None
unmapped r None e = refl
unmapped r (Some d) e = absurd (cc)

nothing_read : (o : Option (Json × List Token)) → converted of_json o ≡ None → whole o ≡ None
nothing_read None e = refl
nothing_read (Some (j, [])) e = unmapped [] (of_json j) e
nothing_read (Some (j, t ∷ ts)) e = refl

no_members : (ts us : List Token) (n : ℕ) (ms : Members) → converted of_json (value 127 ts) ≡ parse_map object (converted (λ js. of_members js ms) (members (value 126) n us))
    → members (value 126) n us ≡ None → whole (value 127 ts) ≡ None
no_members ts us n ms so_far none = nothing_read (value 127 ts) (so_far ∙ ap (λ o. parse_map object (converted (λ js. of_members js ms) o)) none)

pub broken_key : {Behind : Type 0} (ts : List Token) (ls : List Lexeme) (fields : List Field) → ((p : Place) → may_begin p ≡ true → (Behind → p ≡ after_comma) → read_key (punctuate p ls) ≡ None)
    → Reading Behind ts ls fields
    → whole (value 127 ts) ≡ None
broken_key ts ls fields none (p, n, ms, may, behind, enough, so_far, tells) =
    no_members ts (punctuate p ls) n ms so_far (members_no_key (value 126) n (punctuate p ls) (none p may behind))

placed_key : (p : Place) (k : List ℕ) (ls : List Lexeme) → may_begin p ≡ true → punctuate p (token (tok.string k) ∷ colon ∷ ls) ≡ tok.key k ∷ punctuate fresh ls
unfolding punctuate
placed_key fresh k ls may = refl
placed_key after_value k ls may = absurd (false≢true may)
placed_key after_comma k ls may = refl
placed_key after_key k ls may = absurd (false≢true may)

pub broken_value : {Behind : Type 0} (ts : List Token) (old ls : List Lexeme) (fields : List Field) (k : List ℕ) → old ≡ token (tok.string k) ∷ colon ∷ ls
    → value 126 (punctuate fresh ls) ≡ None → Reading Behind ts old fields → whole (value 127 ts) ≡ None
broken_value ts old ls fields k is none (p, n, ms, may, behind, enough, so_far, tells) =
    let split : punctuate p old ≡ tok.key k ∷ punctuate fresh ls = ap (punctuate p) is ∙ placed_key p k ls may in
    no_members ts (punctuate p old) n ms so_far (members_fail (value 126) n k (punctuate p old) (punctuate fresh ls) (ap read_key split) none)

pub broken_behind : {Behind : Type 0} (ts : List Token) (old ls : List Lexeme) (fields : List Field) (k : List ℕ) (t : Token) (d : Data) (field : Field)
    → old ≡ token (tok.string k) ∷ colon ∷ token t ∷ ls → IsScalar t d → NoComma ls → length fields ≡ 19 → data_of field ≡ Some d
    → Reading Behind ts old fields → whole (value 127 ts) ≡ None
broken_behind ts old ls fields k t d field is scalar none len seen reading =
    let left = member_read_on ts old ls fields k t d field is scalar none.0 len seen reading in
    no_members ts (punctuate after_value ls) left.0 left.1 left.3 (members_no_key (value 126) left.0 (punctuate after_value ls) none.1)

-- ---- behind the closing brace

kept : (b : Bool) (t : Token) (k : Place → List Token) (next : Place) (j : Json) → if_last j (if_allowed b t k next) ≡ None
kept true t k next j = refl
kept false t k next j = refl

token_left : (p : Place) (t : Token) (b : Bool) (k : Place → List Token) (j : Json) → if_last j (place_token p t b k) ≡ None
token_left p tok.begin_object b k j = kept _ tok.begin_object k fresh j
token_left p tok.end_object b k j = kept _ tok.end_object k after_value j
token_left p tok.begin_array b k j = kept _ tok.begin_array k fresh j
token_left p tok.end_array b k j = kept _ tok.end_array k after_value j
token_left p (tok.key s) b k j = refl
token_left p (tok.string s) true k j = kept _ (tok.key s) k after_key j
token_left p (tok.string s) false k j = kept _ (tok.string s) k after_value j
token_left p (tok.number s) b k j = kept _ (tok.number s) k after_value j
token_left p (tok.boolean v) b k j = kept _ (tok.boolean v) k after_value j
token_left p tok.null b k j = kept _ tok.null k after_value j
token_left p tok.bad b k j = refl

comma_left : (ls : List Lexeme) (j : Json) → if_last j (punctuate after_comma ls) ≡ None
unfolding punctuate
comma_left [] j = refl
comma_left (token t ∷ ls) j = token_left after_comma t _ _ j
comma_left (comma ∷ ls) j = refl
comma_left (colon ∷ ls) j = refl

something_left : (l : Lexeme) (ls : List Lexeme) (j : Json) → if_last j (punctuate after_value (l ∷ ls)) ≡ None
unfolding punctuate
something_left (token t) ls j = token_left after_value t _ _ j
something_left comma ls j = comma_left ls j
something_left colon ls j = refl

pub broken_end : {Behind : Type 0} (ts : List Token) (old : List Lexeme) (l : Lexeme) (ls : List Lexeme) (fields : List Field) (k : List ℕ) (t : Token) (d : Data) (field : Field)
    → old ≡ token (tok.string k) ∷ colon ∷ token t ∷ token tok.end_object ∷ l ∷ ls → IsScalar t d → length fields ≡ 19 → data_of field ≡ Some d
    → Reading Behind ts old fields → whole (value 127 ts) ≡ None
unfolding punctuate
broken_end ts old l ls fields k t d field is scalar len seen reading =
    let us = punctuate after_value (l ∷ ls) in
    let left = member_read_on ts old (token tok.end_object ∷ l ∷ ls) fields k t d field is scalar refl len seen reading in
    let over = members_over (value 126) left.1 left.0 (tok.end_object ∷ us) us left.2 refl in
    let read = converted_some of_json (value 127 ts) (object left.1) us (left.3 ∙ ap (parse_map object) over) in
    ap whole read.1 ∙ ap (option_and_then of_json) (something_left l ls read.0)
