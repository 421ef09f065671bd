-- Whether a log has a first line.
use Rattle.std.proofs.Common.{◌≡◌, ◌<◌, ◌==◌, ℕ, zero, suc, Bool, true, false, List, [], ◌∷◌, ◌++◌, length, take, MatchBool, MatchResult, Result, Ok, Err, is_ok, IfOk, refl, sym, ◌∙◌, ap, subst, arith, length-append}
use Rattle.std.proofs.lemmas.Bool.Decides.{nat_tests}
use Rattle.inst_base.specs.Newline.{newline}
use Rattle.inst_log.specs.Layout.{blocks, recovered_lines}
use Rattle.inst_program.specs.Keeping.{IsUntaken, KeptRun}
use Rattle.inst_program.specs.Keeping.IsUntaken.{Foreign}

line_has : (line rest : List ℕ) → 0 < length (line ++ newline ∷ rest)
line_has line rest = omega (arith, length-append line (newline ∷ rest))

pub some_first : (lines : List (List ℕ)) (text : List ℕ) → text ≡ blocks (take 1 lines) → 0 < length text → 0 < length lines
some_first [] text is some = omega (arith, ap length is, some)
some_first (line ∷ lines) text is some = omega arith

pub none_first : (lines : List (List ℕ)) (text : List ℕ) → text ≡ blocks (take 1 lines) → length text ≡ 0 → lines ≡ []
none_first [] text is none = refl
none_first (line ∷ lines) text is none = absurd (omega (arith, ap length is, none, line_has line []))

not_zero : (n : ℕ) → (suc n == 0) ≡ false
not_zero n = grind (arith, nat_tests)

-- a log that must be there is absent if the text of its first line is empty
pub absent_if_empty : (must : Bool) (lines : List (List ℕ)) (text : List ℕ) (b : Bool) → must ≡ true → text ≡ blocks (take 1 lines) → b ≡ (length text == 0)
    → MatchBool b ((must ≡ true) × (lines ≡ [])) (must ≡ true → 0 < length lines)
absent_if_empty must lines [] b asked is same = subst (λ (c : Bool). MatchBool c ((must ≡ true) × (lines ≡ [])) (must ≡ true → 0 < length lines)) (sym same) (asked, none_first lines [] is refl)
absent_if_empty must lines (x ∷ xs) b asked is same =
    subst (λ (c : Bool). MatchBool c ((must ≡ true) × (lines ≡ [])) (must ≡ true → 0 < length lines)) (sym (same ∙ not_zero (length xs))) (λ _. some_first lines (x ∷ xs) is (omega arith))

-- a log that must be there and has no byte isn't taken
pub absent_untaken : (run : KeptRun) (file now : List ℕ) → now ≡ file → now ≡ [] → run.resume ≡ true → IsUntaken run file
absent_untaken run file now same none resume = Foreign (λ version first is.
    let empty : recovered_lines file ≡ recovered_lines [] = ap recovered_lines (sym same ∙ none) in
    omega (arith, is.there resume, ap length empty))

pub none_if_empty : (n : ℕ) (b : Bool) → b ≡ (n == 0) → b ≡ true → n ≡ 0
none_if_empty zero b same yes' = refl
none_if_empty (suc n) b same yes' = absurd (cc (sym yes' ∙ same ∙ not_zero n))

-- the text that a call gave, where its error was turned into another
pub lines_of_first : {E F : Type 0} {V : Type 0} (r : Result V E) (q : Result V F) (P : V → Type 0) (x : V) (wrong : E → Type 0) → MatchResult r (λ y. q ≡ Ok y) wrong → is_ok q ≡ is_ok r → q ≡ Ok x → IfOk r P → P x
lines_of_first (Ok y) q P x wrong cases variant is has = let same : ◌≡◌ {A = Result _ _} (Ok y) (Ok x) = sym cases ∙ is in subst P (cc same) has
lines_of_first (Err e) q P x wrong cases variant is has = absurd (cc (variant, is))
