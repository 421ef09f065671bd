-- Nothing of the replies to a log's lines was handed out, or enough lines are there.
use Rattle.std.proofs.Common.{◌≡◌, ◌⊎◌, inl, inr, ◌≤◌, ◌-◌, ◌++◌, ℕ, zero, suc, List, length, drop, Option, None, Some, Result, Ok, Err, OnErr, refl, sym, ◌∙◌, ap, subst, length-append, arith}
use Rattle.inst_agenda.specs.declared.runner.Runner.{Runner}
use Rattle.inst_lines.specs.declared.mode.Mode.{Mode}
use Rattle.inst_log.specs.Layout.{recovered_lines}
use Rattle.inst_chain.specs.Chain.{said}
use Rattle.inst_chain.proofs.LinesWithoutMarks.{said-append}
use Rattle.inst_logged.specs.Answering.{told_count}
use Rattle.inst_logged.specs.inner.Answering.{left_of, AnswersFirst}

-- so many of these lines have been told at most
abbrev pub AreEnough : Option ℕ → List (List ℕ) → Type 0
AreEnough told lines = told_count told (said lines) ≤ length (said lines)

some_is : {a b : ℕ} → Some a ≡ Some b → a ≡ b
some_is e = cc e

pub none_left_or : (left : Option ℕ) → (left ≡ Some 0) ⊎ (left ≡ Some 0 → ⊥)
none_left_or None = inr (λ is. cc is)
none_left_or (Some zero) = inl refl
none_left_or (Some (suc n)) = inr (λ is. cc is)

pub enough_front : (told : Option ℕ) (d e : List (List ℕ)) → AreEnough told d → AreEnough told (d ++ e)
enough_front None d e is = omega arith
enough_front (Some k) d e is = omega (arith, is, ap length (said-append d e), length-append (said d) (said e))

enough_done : (told left : Option ℕ) (d : List (List ℕ)) → left ≡ left_of told d → left ≡ Some 0 → AreEnough told d
enough_done None left d is done = omega arith
enough_done (Some k) left d is done = let same : k - length (said d) ≡ 0 = some_is (sym is ∙ done) in omega (arith, same)

pub enough_more : (told left : Option ℕ) (d p : List (List ℕ)) → left ≡ left_of told d → AreEnough left p → AreEnough told (d ++ p)
enough_more None left d p is enough = omega arith
enough_more (Some k) left d p is enough =
    let more : k - length (said d) ≤ length (said p) = subst (λ (o : Option ℕ). AreEnough o p) is enough in
    omega (arith, more, ap length (said-append d p), length-append (said d) (said p))

-- where more have been told nothing was handed out
pub begun_so_far : (told left : Option ℕ) (first d e : List (List ℕ)) (same : Type 0) → left ≡ left_of told d → first ≡ d ++ e → ((left ≡ Some 0 → ⊥) → same) → same ⊎ AreEnough told first
begun_so_far told left first d e same is all untouched =
    elim (none_left_or left) [
      | inl done ↦ inr (subst (AreEnough told) (sym all) (enough_front told d e (enough_done told left d is done)))
      | inr more ↦ inl (untouched more)
    ]

-- a piece behind some lines was being answered
pub begun_more : (told left : Option ℕ) (first d p e : List (List ℕ)) (same so_far now : Type 0) → left ≡ left_of told d → first ≡ (d ++ p) ++ e → ((left ≡ Some 0 → ⊥) → so_far)
    → now ⊎ AreEnough left p → (so_far → now → same) → same ⊎ AreEnough told first
begun_more told left first d p e same so_far now is all untouched (inr enough) both = inr (subst (AreEnough told) (sym all) (enough_front told (d ++ p) e (enough_more told left d p is enough)))
begun_more told left first d p e same so_far now is all untouched (inl still) both =
    elim (none_left_or left) [
      | inl done ↦ inr (subst (AreEnough told) (sym all) (enough_front told (d ++ p) e (enough_front told d p (enough_done told left d is done))))
      | inr more ↦ inl (both (untouched more) still)
    ]

-- the first lines were answered until none was left of those that have been told
pub enough_first : (mode : Mode) (old new : Runner) (out out' lines : List ℕ) (start count left : ℕ) → AnswersFirst mode old new out out' lines start count left → left ≡ 0 → AreEnough (Some count) (recovered_lines lines)
enough_first mode old new out out' lines start count left f none =
    omega (arith, f.left_is, none, ap (λ (ls : List (List ℕ)). length (said ls)) f.split, ap length (said-append f.done (recovered_lines (drop start lines))), length-append (said f.done) (said (recovered_lines (drop start lines))))

pub on_err_all : {T E : Type 0} (r : Result T E) (P : Type 0) → P → OnErr r P
on_err_all (Ok v) P is = tt
on_err_all (Err e) P is = is
