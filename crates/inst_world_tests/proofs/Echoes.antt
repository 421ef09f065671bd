-- Lines behind lines.
use Rattle.std.proofs.Common.{◌≡◌, ℕ, List, [], ◌∷◌, ◌++◌, Result, Ok, Err, OnOk, refl, sym, ◌∙◌, ap, subst, append_assoc}
use Rattle.inst_log.specs.Layout.{blocks}
use Rattle.inst_log.specs.Serving.{Replies, SaysOn}
use Rattle.inst_log.specs.Restart.{Begins}

pub blocks-append : (a b : List (List ℕ)) → blocks (a ++ b) ≡ blocks a ++ blocks b
blocks-append [] b = refl
blocks-append (line ∷ lines) b =
    ap (λ (l : List ℕ). line ++ 10 ∷ l) (blocks-append lines b) ∙ sym (append_assoc line (10 ∷ blocks lines) (blocks b))

pub blocks_begin : (replies : Replies) → replies ≡ blocks → Begins replies
blocks_begin replies is = subst Begins (sym is) (λ a b. (blocks b, blocks-append a b))

pub blocks_on : (says : Replies → Type 0) (lines : List (List ℕ)) → says blocks → SaysOn (λ replies. replies ≡ blocks) lines says
blocks_on says lines said replies is =
    (blocks, said, λ more. ap (λ (f : Replies). f (lines ++ more)) is ∙ blocks-append lines more ∙ ap (λ (f : Replies). f lines ++ blocks more) (sym is))

pub on_ok : {T E P : Type 0} (r : Result T E) → P → OnOk r P
on_ok (Ok x) p = p
on_ok (Err e) p = tt
