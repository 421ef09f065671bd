-- Texts that are no codes.
use Rattle.std.proofs.Common.{◌≡◌, ◌&&◌, ◌<◌, ℕ, Bool, true, false, List, length, map, get_or, Result, Ok, Err, IfErr, IsErrAnd, Bor, ap, subst, ◌∙◌, refl, inr, arith}
use Rattle.std.specs.List.{list_all}
use Rattle.std.specs.Str.{IsUtf8}
use Rattle.std.proofs.lemmas.Bool.{false≢true}
use Rattle.std.proofs.lemmas.Str.{IsUtf8-from_ascii}
use Rattle.std.proofs.lemmas.List.{get_or-map, length-map}
use Rattle.std.proofs.lemmas.List.Folds.{list_all_at}
use Rattle.inst_base.specs.Text.{is_code}
use Rattle.inst_base.proofs.TextsAreAscii.{IsAscii-code}
use Rattle.inst_base.specs.declared.fault.Fault.{Fault}
use Rattle.inst_base.specs.declared.fault.Fault.TheVariants.{BadSettings}
use Rattle.inst_settings.specs.Parts.{are_codes, IsRefusal}

second : (x y : Bool) → (x && y) ≡ true → y ≡ true
second true y is = is
second false y is = absurd (false≢true is)

-- a code is ASCII
pub utf8_of_code : (text : List ℕ) → is_code text ≡ true → IsUtf8 text
utf8_of_code text is = IsUtf8-from_ascii text (IsAscii-code text (second _ _ is))

false_of : (b : Bool) → ¬ (b ≡ true) → b ≡ false
false_of true other = absurd (other refl)
false_of false other = refl

-- a part that is no code stands among the others
pub other_code : (items : List (Bor (List ℕ))) (i : ℕ) (d : Bor (List ℕ)) (texts : List (List ℕ)) → i < length items → map (λ part. part.now) items ≡ texts →
    ¬ (is_code (get_or items i d).now ≡ true) → list_all is_code texts ≡ false
other_code items i d texts below same other =
    let now = λ (part : Bor (List ℕ)). part.now in
    let within : i < length (map now items) = omega (arith, length-map items now) in
    let here : is_code (get_or (map now items) i d.now) ≡ false = ap is_code (get_or-map now items i d d.now below) ∙ false_of _ other in
    subst (λ (all : List (List ℕ)). list_all is_code all ≡ false) same (list_all_at is_code (map now items) i d.now within here)

-- bad settings that are passed on, with why
pub passed_on : {A : Type 0} (text : List ℕ) (r : Result A Fault) (fault : Fault) → IsErrAnd r (λ e. e ≡ fault) → fault ≡ BadSettings → are_codes text ≡ false → IfErr r (IsRefusal text)
passed_on text (Ok x) fault is bad p = tt
passed_on text (Err e) fault is bad p = inr (is ∙ bad, p)
