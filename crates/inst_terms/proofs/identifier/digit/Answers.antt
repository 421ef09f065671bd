use Rattle.std.proofs.Common.{ℕ, ap, ◌/◌, ◌%◌}
use Rattle.inst_terms.proofs.Base128.{two_pow_seven}
use Rattle.inst_terms.proofs.identifier.digit.Goals as goal

pub returns : goal.returns
returns c = ap (λ (x : ℕ). c.args.word / x % 128) (two_pow_seven c.args.place)
