-- What a line is, from what the reader of JSON says of it.
use Rattle.std.proofs.Common.{◌≡◌, ℕ, List, Bool, true, false, Some, None, Ok, Err, ok_or, option_and_then, Option, IsSome, if◌then◌else◌, refl, sym, ap, ◌∙◌}
use Rattle.std.proofs.lemmas.Str.{IsUtf8-from_is_utf8, is_utf8-from_IsUtf8}
use Rattle.std.specs.Str.{IsUtf8, is_utf8}
use Rattle.serde_json.specs.Data.{Data}
use Rattle.serde_json.specs.Read.{read, of_json}
use Rattle.json.specs.Json.{Json}
use Rattle.inst_base.specs.declared.fault.Fault.TheVariants.{NotJson}
use Rattle.inst_json.specs.Lines.{json_of}
use Rattle.inst_json.specs.inner.Lines.{document}

pub json_of-value : (line : List ℕ) (d : Data) → IsUtf8 line → read line ≡ Some d → Ok d ≡ json_of line
unfolding json_of
json_of-value line d utf8 is =
    ap (λ o. ok_or o NotJson) (sym is) ∙ ap (λ b. ok_or (if b then read line else None) NotJson) (sym (is_utf8-from_IsUtf8 line utf8))

none_at : (line : List ℕ) (b : Bool) → is_utf8 line ≡ b → (IsUtf8 line → read line ≡ None) → Err NotJson ≡ ok_or (if b then read line else None) NotJson
none_at line true is none = ap (λ o. ok_or o NotJson) (sym (none (IsUtf8-from_is_utf8 line is)))
none_at line false is none = refl

pub json_of-none : (line : List ℕ) → (IsUtf8 line → read line ≡ None) → Err NotJson ≡ json_of line
unfolding json_of
json_of-none line none = none_at line (is_utf8 line) refl none

no_data : (found : Option Json) → (IsSome found → ⊥) → option_and_then of_json found ≡ None
no_data None none = refl
no_data (Some json) none = absurd (none refl)

-- what is no document of JSON has no value
pub json_of-no_document : (line : List ℕ) → (IsSome (document line) → ⊥) → Err NotJson ≡ json_of line
json_of-no_document line none = json_of-none line (λ _. no_data (document line) none)
