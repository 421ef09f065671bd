use Rattle.std.proofs.Common.{◌≤◌, length, ℕ, not, leb, cond, bit_and, bit_or, refl, arith}
use Rattle.std.proofs.lemmas.Simd.{zip2_splat, splat_is_map}
use Rattle.inst_base.specs.Text.{is_latin}
use Rattle.inst_base.proofs.Masks.{joined, masked}
use Rattle.inst_base.proofs.ident.not_latin.Goals as goal

pub returns : goal.returns
returns c =
    let v = c.args.bytes in
    let long = c.fits-bytes.0 in
    let short : length v ≤ 64 = omega (arith, long) in
    let letter = joined (λ a b. cond (leb a b) 255 0) _ _ v (splat_is_map v 16 26 long) (joined _ _ _ v (zip2_splat {Y = ℕ} _ v 16 32 long) (splat_is_map v 16 97 long)) in
    let sign = joined bit_or _ _ v (joined (λ a b. cond (leb a b) 255 0) _ _ v (splat_is_map v 16 20 long) (zip2_splat _ v 16 39 long)) (zip2_splat _ v 16 42 long) in
    let other = joined bit_and _ _ v (zip2_splat _ v 16 32 long) (zip2_splat _ v 16 63 long) in
    masked _ (λ x. not (is_latin x)) v _ short c.fits-bytes.1 (joined bit_and _ _ v (joined bit_and _ _ v letter sign) other) refl
