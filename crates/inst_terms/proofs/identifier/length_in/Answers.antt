use Rattle.std.proofs.Common.{◌≡◌, ◌≢◌, ◌/◌, ℕ, suc, sym, subst, arith}
use Rattle.inst_terms.specs.inner.Identifier.{digit}
use Rattle.inst_terms.proofs.Base128.{no_digit, a_digit, stands}
use Rattle.inst_terms.proofs.identifier.length_in.Goals as goal

pub returns-clause-zeros : goal.returns-clause-zeros
returns-clause-zeros c = λ k most.
    let n = c.ilog2.result / 7 in
    let between = stands c.args.word c.ilog2.result c.ilog2.ensures.power_le c.ilog2.ensures.next_power_gt in
    no_digit c.args.word (suc n) k between.high (omega arith)

pub returns-clause-last : goal.returns-clause-last
returns-clause-last c = λ k next.
    let n = c.ilog2.result / 7 in
    let between = stands c.args.word c.ilog2.result c.ilog2.ensures.power_le c.ilog2.ensures.next_power_gt in
    let at : k ≡ n = omega arith in
    subst (λ (x : ℕ). digit c.args.word x ≢ 0) (sym at) (a_digit c.args.word n between.low between.high)
