-- A reason and its number.
use Rattle.std.proofs.Common.{◌≡◌, ℕ, ◌/◌, ◌%◌, ◌<◌, Bool, true, ◌&&◌, ◌==◌, List, [], ◌∷◌, length, refl, sym, ap, ◌∙◌, subst, arith}
use Rattle.std.specs.Prelude.{IsTrue, Some, Ok, Err, if◌then◌else◌}
use Rattle.std.specs.Result.{result_ok}
use Rattle.std.specs.List.{list_all}
use Rattle.std.specs.Str.{IsUtf8}
use Rattle.std.proofs.lemmas.Str.{IsUtf8-from_ascii}
use Rattle.std.proofs.lemmas.Bool.Decides.{nat_tests}
use Rattle.inst_base.specs.declared.fault.Fault.TheVariants.{BadField}
use Rattle.inst_base.specs.Text.{is_code_character, is_reason, reason_of}
use Rattle.std.proofs.lemmas.Bool.{and_parts}
use Rattle.inst_base.proofs.TextsAreAscii.{IsAscii-code}
use Rattle.inst_terms.specs.Reason.{digit_of, reason_number}
use Rattle.inst_terms.specs.inner.Reason.{character_of}

pub digit_below : (c : ℕ) → is_code_character c ≡ true → digit_of c < 36
digit_below c h = grind (arith, nat_tests)

pub character_of-digit_of : (c : ℕ) → is_code_character c ≡ true → character_of (digit_of c) ≡ c
character_of-digit_of c h = grind (arith, nat_tests)

pub digit_of-character_of : (d : ℕ) → d < 36 → digit_of (character_of d) ≡ d
digit_of-character_of d h = grind (arith, nat_tests)

pub is_character : (d : ℕ) → d < 36 → is_code_character (character_of d) ≡ true
is_character d h = grind (arith, nat_tests)

-- the four characters of a number below 36^4
abbrev pub characters : ℕ → List ℕ
characters n = character_of (n / 46656) ∷ character_of (n / 1296 % 36) ∷ character_of (n / 36 % 36) ∷ character_of (n % 36) ∷ []

and_true : (a b : Bool) → a ≡ true → b ≡ true → (a && b) ≡ true
and_true a b e f = cc

pub is_reason_of : (n : ℕ) → n < 1679616 → is_reason (characters n) ≡ true
is_reason_of n h =
    let a = is_character (n / 46656) (omega arith) in
    let b = is_character (n / 1296 % 36) (omega arith) in
    let d = is_character (n / 36 % 36) (omega arith) in
    let e = is_character (n % 36) (omega arith) in
    and_true _ _ a (and_true _ _ b (and_true _ _ d (and_true _ _ e refl)))

pub reason_number-characters : (n : ℕ) → n < 1679616 → reason_number (characters n) ≡ n
reason_number-characters n h =
    let a = digit_of-character_of (n / 46656) (omega arith) in
    let b = digit_of-character_of (n / 1296 % 36) (omega arith) in
    let d = digit_of-character_of (n / 36 % 36) (omega arith) in
    let e = digit_of-character_of (n % 36) (omega arith) in
    omega arith

-- what is known of a reason
pub record IsFour (text : List ℕ) : Type 0 where
  pub below : reason_number text < 1679616
  pub again : characters (reason_number text) ≡ text

four : (a b c d : ℕ) → is_code_character a ≡ true → is_code_character b ≡ true → is_code_character c ≡ true → is_code_character d ≡ true → IsFour (a ∷ b ∷ c ∷ d ∷ [])
four a b c d ha hb hc hd =
    let x = digit_of a in let y = digit_of b in let z = digit_of c in let w = digit_of d in
    let la : x < 36 = digit_below a ha in let lb : y < 36 = digit_below b hb in
    let lc : z < 36 = digit_below c hc in let ld : w < 36 = digit_below d hd in
    let n = reason_number (a ∷ b ∷ c ∷ d ∷ []) in
    let na : n / 46656 ≡ x = omega arith in
    let nb : n / 1296 % 36 ≡ y = omega arith in
    let nc : n / 36 % 36 ≡ z = omega arith in
    let nd : n % 36 ≡ w = omega arith in
    let ea = ap character_of na ∙ character_of-digit_of a ha in
    let eb = ap character_of nb ∙ character_of-digit_of b hb in
    let ec = ap character_of nc ∙ character_of-digit_of c hc in
    let ed = ap character_of nd ∙ character_of-digit_of d hd in
    record { below = omega arith; again = cc }

length_is : (text : List ℕ) → IsTrue (is_reason text) → length text ≡ 4
length_is text h = let e = (and_parts (length text == 4) (list_all is_code_character text) h).0 in grind (arith, nat_tests)

pub four_characters : (text : List ℕ) → IsTrue (is_reason text) → IsFour text
four_characters [] h = absurd (cc)
four_characters (a ∷ []) h = absurd (cc)
four_characters (a ∷ b ∷ []) h = absurd (cc)
four_characters (a ∷ b ∷ c ∷ []) h = absurd (cc)
four_characters (a ∷ b ∷ c ∷ d ∷ []) h =
    let one = and_parts (is_code_character a) (list_all is_code_character (b ∷ c ∷ d ∷ [])) h in
    let two = and_parts (is_code_character b) (list_all is_code_character (c ∷ d ∷ [])) one.1 in
    let three = and_parts (is_code_character c) (list_all is_code_character (d ∷ [])) two.1 in
    let last = and_parts (is_code_character d) true three.1 in
    four a b c d one.0 two.0 three.0 last.0
four_characters (a ∷ b ∷ c ∷ d ∷ e ∷ rest) h = absurd (omega (arith, length_is (a ∷ b ∷ c ∷ d ∷ e ∷ rest) h))

pub utf8_reason : (n : ℕ) → n < 1679616 → IsUtf8 (characters n)
utf8_reason n h = IsUtf8-from_ascii (characters n) (IsAscii-code (characters n) (and_parts (length (characters n) == 4) (list_all is_code_character (characters n)) (is_reason_of n h)).1)

-- the reason of a number below 36^4
pub reason_found : (n : ℕ) → n < 1679616 → (reason : List ℕ) → result_ok (reason_of (characters n)) ≡ Some reason → IsTrue (is_reason reason) × (reason_number reason ≡ n)
reason_found n h reason e =
    let is : result_ok (reason_of (characters n)) ≡ Some (characters n) = ap (λ b. result_ok (if b then Ok (characters n) else Err BadField)) (is_reason_of n h) in
    let same : characters n ≡ reason = cc in
    (subst (λ (t : List ℕ). IsTrue (is_reason t)) same (is_reason_of n h), subst (λ (t : List ℕ). reason_number t ≡ n) same (reason_number-characters n h))

pub finds_reason : (n : ℕ) → n < 1679616 → (reason : List ℕ) → IsTrue (is_reason reason) → reason_number reason ≡ n → result_ok (reason_of (characters n)) ≡ Some reason
finds_reason n h reason form is =
    ap (λ b. result_ok (if b then Ok (characters n) else Err BadField)) (is_reason_of n h) ∙ ap Some (ap characters (sym is) ∙ (four_characters reason form).again)
