use Rattle.std.proofs.Common.{◌≡◌, List, ℕ, map, Bor, ap, ◌∙◌, arith}
use Rattle.inst_settings.specs.Parts.{parts_of}
use Rattle.inst_settings.proofs.TextsThatAreNoCodes.{other_code, passed_on}
use Rattle.inst_settings.proofs.participants.parse_codes.Goals as goal

pub returns-in_err-code-clause-fault : goal.returns-in_err-code-clause-fault
returns-in_err-code-clause-fault c =
    let parts : map (λ (part : Bor (List ℕ)). part.now) c.deref-part-items.result.now ≡ parts_of c.args.text.now =
    ap (map (λ (part : Bor (List ℕ)). part.now)) c.deref-part-items.ensures.value ∙ c.in_ok-parts.ensures in
    passed_on c.args.text.now c.from_residual-in_err-code.result c.in_err-code.field-0.0 c.from_residual-in_err-code.ensures.1 c.in_err-code.ensures.fault
    (other_code c.deref-part-items.result.now c.loop-part.part-index _ (parts_of c.args.text.now) (omega arith) parts c.in_err-code.ensures.code)
