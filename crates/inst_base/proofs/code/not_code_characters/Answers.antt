use Rattle.std.proofs.Common.{◌≤◌, length, not, leb, cond, bit_and, refl, arith}
use Rattle.std.proofs.lemmas.Simd.{zip2_splat, splat_is_map}
use Rattle.inst_base.specs.Text.{is_code_character}
use Rattle.inst_base.proofs.Masks.{joined, masked}
use Rattle.inst_base.proofs.code.not_code_characters.Goals as goal

pub returns : goal.returns
returns c =
    let v = c.args.bytes in
    let long = c.fits-bytes.0 in
    let short : length v ≤ 64 = omega (arith, long) in
    let letter = joined (λ a b. cond (leb a b) 255 0) _ _ v (splat_is_map v 8 26 long) (zip2_splat _ v 8 65 long) in
    let digit = joined (λ a b. cond (leb a b) 255 0) _ _ v (splat_is_map v 8 10 long) (zip2_splat _ v 8 48 long) in
    masked _ (λ x. not (is_code_character x)) v _ short c.fits-bytes.1 (joined bit_and _ _ v letter digit) refl
