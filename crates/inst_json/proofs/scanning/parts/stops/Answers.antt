use Rattle.std.proofs.Common.{◌≤◌, length, leb, cond, not, refl, arith}
use Rattle.std.proofs.lemmas.Simd.{zip2_splat, zip2_splat_left}
use Rattle.inst_json.specs.inner.Scalar.{is_text}
use Rattle.inst_base.proofs.Masks.{joined, masked}
use Rattle.inst_json.proofs.scanning.parts.stops.Goals as goal

pub returns : goal.returns
returns c =
    let v = c.args.bytes in
    let long = c.fits-bytes.0 in
    let short : length v ≤ 64 = omega (arith, long) in
    let marks = joined _ _ _ v (joined _ _ _ v (zip2_splat _ v 16 34 long) (zip2_splat _ v 16 92 long)) (zip2_splat _ v 16 32 long) in
    let high = zip2_splat_left (λ a b. cond (leb a b) 255 0) 128 16 v long in
    masked _ (λ x. not (is_text x)) v _ short c.fits-bytes.1 (joined _ _ _ v marks high) refl
