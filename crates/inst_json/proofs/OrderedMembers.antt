-- The members of an object, one after another.
use Rattle.std.proofs.Common.{◌≡◌, ℕ, zero, suc, ◌+◌, ◌-◌, ◌<◌, ◌≤◌, Bool, true, false, cond, not, List, [], ◌∷◌, length, get_or, set, replicate, Some, refl, sym, ap, ◌∙◌, subst, arith, ◌⊎◌, inl, inr}
use Rattle.std.proofs.lemmas.Bool.{true≢false, cases_eq}
use Rattle.std.proofs.lemmas.List.{get_or-set_same, get_or-set_other}
use Rattle.std.proofs.lemmas.Slice.Eq.{bytes_eq-Decides}
use Rattle.std.specs.Str.{bytes_eq}
use Rattle.std.specs.List.{position_or_len}
use Rattle.json.specs.Token as tok
use Rattle.json.specs.Token.{Token}
use Rattle.json.specs.Lex.{Lexeme, token, comma, colon, Place, fresh, after_value, after_comma, after_key, may_begin, begins_colon, punctuate}
use Rattle.json.specs.Json.{value, members, parse_map}
use Rattle.json.proofs.Grammar.{value_is, value-begin_object}
use Rattle.serde_json.specs.Data.{Data, string, number, unsigned, object, Members, no_members, put}
use Rattle.serde_json.specs.Read.{of_json, of_members, converted, number_of}
use Rattle.serde_json.specs.Find.{get_member}
use Rattle.inst_json.proofs.Grammar.{converted-object, member_read, members_over, whole, whole_read}
use Rattle.serde_json.proofs.Views.{get_member-put, get_member-put_other}
use Rattle.inst_json.specs.inner.Scalar.{IsScalar, data_of}
use Rattle.inst_json.specs.inner.Names.{names, name_index}
use Rattle.inst_json.specs.LineFields.{no_fields}
use Rattle.inst_json.proofs.FieldsOfLineValue.{TellsMembers, TellsObject}
use Rattle.inst_json.specs.declared.scanning.fields.Field.{Field}
use Rattle.inst_json.specs.declared.scanning.fields.Field.TheVariants.{Missing}

pub IsScalar-string : (s : List ℕ) → IsScalar (tok.string s) (string s)
unfolding punctuate
IsScalar-string s = record {
  denotes = λ depth rest. ap (converted of_json) (value_is depth (tok.string s ∷ rest));
  placed = λ ls h. rw h refl;
}

pub IsScalar-number : (s : List ℕ) (n : ℕ) → number_of s ≡ Some (unsigned n) → IsScalar (tok.number s) (number (unsigned n))
unfolding punctuate
IsScalar-number s n e = record {
  denotes = λ depth rest. ap (converted of_json) (value_is depth (tok.number s ∷ rest)) ∙ rw e refl;
  placed = λ ls h. refl;
}

-- ---- names

pub place_of-name : (i : ℕ) → i < 19 → name_index (get_or names i []) ≡ i
place_of-name zero h = refl
place_of-name (suc zero) h = refl
place_of-name (suc (suc zero)) h = refl
place_of-name (suc (suc (suc zero))) h = refl
place_of-name (suc (suc (suc (suc zero)))) h = refl
place_of-name (suc (suc (suc (suc (suc zero))))) h = refl
place_of-name (suc (suc (suc (suc (suc (suc zero)))))) h = refl
place_of-name (suc (suc (suc (suc (suc (suc (suc zero))))))) h = refl
place_of-name (suc (suc (suc (suc (suc (suc (suc (suc zero)))))))) h = refl
place_of-name (suc (suc (suc (suc (suc (suc (suc (suc (suc zero))))))))) h = refl
place_of-name (suc (suc (suc (suc (suc (suc (suc (suc (suc (suc zero)))))))))) h = refl
place_of-name (suc (suc (suc (suc (suc (suc (suc (suc (suc (suc (suc zero))))))))))) h = refl
place_of-name (suc (suc (suc (suc (suc (suc (suc (suc (suc (suc (suc (suc zero)))))))))))) h = refl
place_of-name (suc (suc (suc (suc (suc (suc (suc (suc (suc (suc (suc (suc (suc zero))))))))))))) h = refl
place_of-name (suc (suc (suc (suc (suc (suc (suc (suc (suc (suc (suc (suc (suc (suc zero)))))))))))))) h = refl
place_of-name (suc (suc (suc (suc (suc (suc (suc (suc (suc (suc (suc (suc (suc (suc (suc zero))))))))))))))) h = refl
place_of-name (suc (suc (suc (suc (suc (suc (suc (suc (suc (suc (suc (suc (suc (suc (suc (suc zero)))))))))))))))) h = refl
place_of-name (suc (suc (suc (suc (suc (suc (suc (suc (suc (suc (suc (suc (suc (suc (suc (suc (suc zero))))))))))))))))) h = refl
place_of-name (suc (suc (suc (suc (suc (suc (suc (suc (suc (suc (suc (suc (suc (suc (suc (suc (suc (suc zero)))))))))))))))))) h = refl
place_of-name (suc (suc (suc (suc (suc (suc (suc (suc (suc (suc (suc (suc (suc (suc (suc (suc (suc (suc (suc i))))))))))))))))))) h = absurd (omega arith)

found_from : (p : List ℕ → Bool) (x : List ℕ) (xs : List (List ℕ)) (b : Bool) → p x ≡ b → cond (not b) (1 + position_or_len p xs) 0 < suc (length xs)
    → (position_or_len p xs < length xs → p (get_or xs (position_or_len p xs) []) ≡ true) → p (get_or (x ∷ xs) (cond (not b) (1 + position_or_len p xs) 0) []) ≡ true
found_from p x xs true is h ih = is
found_from p x xs false is h ih =
    let more : suc (position_or_len p xs) ≡ 1 + position_or_len p xs = omega arith in
    subst (λ m. p (get_or (x ∷ xs) m []) ≡ true) more (ih (omega arith))

found_at : (p : List ℕ → Bool) (xs : List (List ℕ)) → position_or_len p xs < length xs → p (get_or xs (position_or_len p xs) []) ≡ true
found_at p [] h = absurd (omega arith)
found_at p (x ∷ xs) h = found_from p x xs (p x) refl h (found_at p xs)

-- ---- the fields after one more member

pub tells_put : (fields : List Field) (ms : Members) (k : List ℕ) (d : Data) (field : Field) → length fields ≡ 19 → data_of field ≡ Some d → TellsMembers fields ms
    → TellsMembers (set fields (name_index k) field) (put k d ms)
tells_put fields ms k d field len is tells i h = by_place (cases_eq i (name_index k))
  where
    by_place : (i ≡ name_index k) ⊎ (i ≡ name_index k → ⊥) → get_member (get_or names i []) (put k d ms) ≡ data_of (get_or (set fields (name_index k) field) i Missing)
    by_place (inl e) =
        let at : name_index k < 19 = omega (arith, e) in
        let same_name : k ≡ get_or names i [] = (bytes_eq-Decides k _).0 (found_at (bytes_eq k) names at) ∙ ap (λ j. get_or names j []) (sym e) in
        ap (λ q. get_member q (put k d ms)) (sym same_name) ∙ get_member-put k d ms ∙ sym is
        ∙ ap data_of (sym (ap (λ j. get_or (set fields (name_index k) field) j Missing) e ∙ get_or-set_same fields (name_index k) field Missing (omega arith)))
    by_place (inr other) =
        let differs = λ (e : get_or names i [] ≡ k). other (sym (place_of-name i h) ∙ ap name_index e) in
        get_member-put_other (get_or names i []) k d ms differs ∙ tells i h ∙ ap data_of (sym (get_or-set_other fields (name_index k) i field Missing other))

-- ---- the tokens of one member

placed_member : (p : Place) (k : List ℕ) (t : Token) (d : Data) (ls : List Lexeme) → may_begin p ≡ true → IsScalar t d → begins_colon ls ≡ false
    → punctuate p (token (tok.string k) ∷ colon ∷ token t ∷ ls) ≡ tok.key k ∷ t ∷ punctuate after_value ls
unfolding punctuate
placed_member fresh k t d ls may scalar no_colon = ap (λ r. tok.key k ∷ r) (scalar.placed ls no_colon)
placed_member after_value k t d ls may scalar no_colon = absurd (true≢false (sym may))
placed_member after_comma k t d ls may scalar no_colon = ap (λ r. tok.key k ∷ r) (scalar.placed ls no_colon)
placed_member after_key k t d ls may scalar no_colon = absurd (true≢false (sym may))

-- what is read of the tokens ts, where the lexemes ls are left, an object is open and these are its fields so far;
-- Behind says that a comma came last
abbrev pub Reading : Type 0 → List Token → List Lexeme → List Field → Type 0
Reading Behind ts ls fields =
    (p : Place) × (n : ℕ) × (ms : Members) × (may_begin p ≡ true) × (Behind → p ≡ after_comma) × (length (punctuate p ls) ≤ n)
    × (converted of_json (value 127 ts) ≡ parse_map object (converted (λ js. of_members js ms) (members (value 126) n (punctuate p ls))))
    × TellsMembers fields ms

none_at : (i n : ℕ) → get_or (replicate n Missing) i Missing ≡ Missing
none_at zero zero = refl
none_at (suc i) zero = refl
none_at zero (suc n) = refl
none_at (suc i) (suc n) = none_at i n

-- the first brace opens an object with nothing in it
pub reading_begins : {Behind : Type 0} (ts : List Token) (ls : List Lexeme) (fields : List Field) → ts ≡ punctuate fresh (token tok.begin_object ∷ ls)
    → fields ≡ no_fields → (Behind → ⊥) → Reading Behind ts ls fields
unfolding punctuate
reading_begins ts ls fields is none first =
    let us = punctuate fresh ls in (
      fresh,
      length us,
      no_members,
      refl,
      λ behind. absurd (first behind),
      omega arith,
      ap (λ vs. converted of_json (value 127 vs)) is ∙ ap (converted of_json) (value-begin_object 127 us (omega arith)) ∙ converted-object (members (value 126) (length us) us),
      λ i h. ap data_of (sym (ap (λ fs. get_or fs i Missing) none ∙ none_at i 19)),
    )

-- one member, behind which ls are left
module _ (ts : List Token) (old ls : List Lexeme) (fields : List Field) (k : List ℕ) (t : Token) (d : Data) (field : Field)
    (is : old ≡ token (tok.string k) ∷ colon ∷ token t ∷ ls) (scalar : IsScalar t d) (no_colon : begins_colon ls ≡ false)
    (len : length fields ≡ 19) (seen : data_of field ≡ Some d) where
  -- the members so far, and those that are left
  abbrev pub Left : Type 0
  Left = (n : ℕ) × (ms : Members) × (length (punctuate after_value ls) ≤ n)
      × (converted of_json (value 127 ts) ≡ parse_map object (converted (λ js. of_members js ms) (members (value 126) n (punctuate after_value ls))))
      × TellsMembers (set fields (name_index k) field) ms

  pub member_read_on : {Behind : Type 0} → Reading Behind ts old fields → Left
  member_read_on (p, n, ms, may, behind, enough, so_far, tells) =
      let us = punctuate after_value ls in
      let split : punctuate p old ≡ tok.key k ∷ t ∷ us = ap (punctuate p) is ∙ placed_member p k t d ls may scalar no_colon in
      let count : suc (suc (length us)) ≤ n = rw split at enough in
      let turn = member_read (value 126) ms n k (tok.key k ∷ t ∷ us) (t ∷ us) us d (omega arith) refl (scalar.denotes 126 us) in (
        n - 1,
        put k d ms,
        omega arith,
        so_far ∙ ap (λ vs. parse_map object (converted (λ js. of_members js ms) (members (value 126) n vs))) split ∙ ap (parse_map object) turn,
        tells_put fields ms k d field len seen tells,
      )

pub reading_goes_on : {Before Behind : Type 0} (ts : List Token) (old ls : List Lexeme) (fields : List Field) (k : List ℕ) (t : Token) (d : Data) (field : Field)
    → old ≡ token (tok.string k) ∷ colon ∷ token t ∷ comma ∷ ls → IsScalar t d → length fields ≡ 19 → data_of field ≡ Some d
    → Reading Before ts old fields → Reading Behind ts ls (set fields (name_index k) field)
unfolding punctuate
reading_goes_on ts old ls fields k t d field is scalar len seen reading =
    let left = member_read_on ts old (comma ∷ ls) fields k t d field is scalar refl len seen reading in
    (after_comma, left.0, left.1, refl, λ behind. refl, left.2, left.3, left.4)

pub reading_ends : {Behind : Type 0} (ts : List Token) (old : List Lexeme) (fields : List Field) (k : List ℕ) (t : Token) (d : Data) (field : Field)
    → old ≡ token (tok.string k) ∷ colon ∷ token t ∷ token tok.end_object ∷ [] → IsScalar t d → length fields ≡ 19 → data_of field ≡ Some d
    → Reading Behind ts old fields → (e : Data) × (whole (value 127 ts) ≡ Some e) × TellsObject (set fields (name_index k) field) e
unfolding punctuate
reading_ends ts old fields k t d field is scalar len seen reading =
    let left = member_read_on ts old (token tok.end_object ∷ []) fields k t d field is scalar refl len seen reading in
    let over = members_over (value 126) left.1 left.0 (tok.end_object ∷ []) [] left.2 refl in
    (object left.1, whole_read (value 127 ts) (object left.1) (left.3 ∙ ap (parse_map object) over), left.4)
