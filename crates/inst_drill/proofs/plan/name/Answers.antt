use Rattle.std.proofs.Common.{refl, ◌∙◌, ◌++◌, ap, if◌then◌else◌, Ok, Err, List, ℕ, arith}
use Rattle.inst_base.specs.declared.fault.Fault.TheVariants.{BadIdentifier}
use Rattle.inst_drill.proofs.IdentifierOfNumber.{named}
use Rattle.inst_drill.proofs.plan.name.Goals as goal

pub unreachable-requires : goal.unreachable-requires
unreachable-requires c =
    let yes = named c.args.letter.now c.as_str.result.now c.args.number c.requires.0 c.requires.1 c.ranges.number.fits (c.in_ok-digits.ensures.digits c.args.number refl (let n = c.ranges.number.fits in omega (arith, n)))
    (c.as_str.ensures.value ∙ (c.in_ok-text.ensures.ok ∙ ap (λ (l : List ℕ). c.args.letter.now ++ l) c.in_ok-digits.ensures.ok)) in
    c.in_default.not-Ok c.as_str.result.now (c.new.ensures ∙ ap (λ b. if b then Ok c.as_str.result.now else Err BadIdentifier) yes)
