-- Which logs have the digest that is asked for.
use Rattle.std.proofs.Common.{◌≡◌, ◌∙◌, ◌∷◌, ◌||◌, ℕ, Bool, List, [], Option, None, Some, refl, ap, sym, subst}
use Rattle.std.specs.Prelude.{bytes_eq}
use Rattle.inst_log.specs.Layout.{recovered_lines}
use Rattle.inst_chain.specs.Chain.{has_digest, mark_with}
use Rattle.inst_chain.specs.declared.digest.Digest.{Digest}
use Rattle.inst_logged.specs.Refused.{HasWanted, IsLogTaken}
use Rattle.inst_logged.specs.declared.version.Version.{Version}
use Rattle.inst_logged.specs.declared.version.Version.TheVariants.{One, Two}
use Rattle.inst_program.specs.Keeping.{AsksFor}

-- what has the digest that is asked for has it, whichever digest has its text
has_same : (d e : Digest) → d.text ≡ e.text → (lines : List (List ℕ)) → has_digest d lines ≡ has_digest e lines
has_same d e same [] = refl
has_same d e same (line ∷ lines) =
    ap (λ (t : List ℕ). bytes_eq line (mark_with t) || has_digest d lines) same
    ∙ ap (λ (b : Bool). bytes_eq line (mark_with e.text) || b) (has_same d e same lines)

wanted_so : (version : Version) (file : List ℕ) (d e : Digest) → d.text ≡ e.text → HasWanted version (Some d) file → HasWanted version (Some e) file
wanted_so One file d e same has = absurd (cc has)
wanted_so Two file d e same has = sym (has_same d e same (recovered_lines file)) ∙ has

pub wanted_same : (digest : Option (List ℕ)) (w v : Option Digest) → AsksFor digest w → AsksFor digest v → (version : Version) (file : List ℕ) → HasWanted version w file → HasWanted version v file
wanted_same None w v is same version file has = subst (λ (o : Option Digest). HasWanted version o file) (is ∙ sym same) has
wanted_same (Some text) w v (d, is, is_text) (e, same, so) version file has =
    subst (λ (o : Option Digest). HasWanted version o file) (sym same)
    (wanted_so version file d e (is_text ∙ sym so) (subst (λ (o : Option Digest). HasWanted version o file) is has))

pub taken_same : (digest : Option (List ℕ)) (w v : Option Digest) → AsksFor digest w → AsksFor digest v → (version : Version) (first : List ℕ) (told : Option ℕ) (file : List ℕ)
    → IsLogTaken version first told w file → IsLogTaken version first told v file
taken_same digest w v is same version first told file taken =
    record { intact = taken.intact; opens = taken.opens; enough = taken.enough; digest = wanted_same digest w v is same version file taken.digest }
