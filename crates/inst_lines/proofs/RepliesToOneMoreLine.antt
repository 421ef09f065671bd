-- Replies to one line more, at any world.
use Rattle.std.proofs.Common.{◌≡◌, ℕ, ◌+◌, cond, List, [], ◌∷◌, ◌++◌, refl, sym, ap, ◌∙◌, arith, append_assoc}
use Rattle.std.proofs.lemmas.List.{append-nil}
use Rattle.inst_base.specs.Newline.{newline}
use Rattle.inst_lines.specs.Answers.{Answerer, reply_to, state_after_line, is_refused, output, state_after, refusals}

pub output-append : {S : Type 0} (a : Answerer S) (s : S) (xs ys : List (List ℕ)) → output a s (xs ++ ys) ≡ output a s xs ++ output a (state_after a s xs) ys
output-append a s [] ys = refl
output-append a s (x ∷ xs) ys =
    ap (λ (t : List ℕ). (reply_to a s x ++ newline ∷ []) ++ t) (output-append a (state_after_line a s x) xs ys)
    ∙ sym (append_assoc (reply_to a s x ++ newline ∷ []) _ _)

pub output-push : {S : Type 0} (a : Answerer S) (s : S) (xs : List (List ℕ)) (x : List ℕ) → output a s (xs ++ x ∷ []) ≡ output a s xs ++ (reply_to a (state_after a s xs) x ++ newline ∷ [])
output-push a s xs x = output-append a s xs (x ∷ []) ∙ ap (λ (t : List ℕ). output a s xs ++ t) (append-nil _)

pub state_after-push : {S : Type 0} (a : Answerer S) (s : S) (xs : List (List ℕ)) (x : List ℕ) → state_after a s (xs ++ x ∷ []) ≡ state_after_line a (state_after a s xs) x
state_after-push a s [] x = refl
state_after-push a s (y ∷ xs) x = state_after-push a (state_after_line a s y) xs x

pub refusals-push : {S : Type 0} (a : Answerer S) (s : S) (xs : List (List ℕ)) (x : List ℕ) → refusals a s (xs ++ x ∷ []) ≡ refusals a s xs + cond (is_refused a (state_after a s xs) x) 1 0
refusals-push a s [] x = omega arith
refusals-push a s (y ∷ xs) x = let h : _ ≡ _ = refusals-push a (state_after_line a s y) xs x in omega (arith, h)
