use Rattle.std.proofs.Common.{◌+◌, sym, arith, get_or}
use Rattle.inst_terms.proofs.Base128.{no_digits}
use Rattle.inst_terms.proofs.identifier.word_from.Goals as goal

pub returns-then-len-start : goal.returns-then-len-start
returns-then-len-start c = sym (no_digits 9 (λ j. get_or c.args.characters.now (c.args.start + j) 0) (λ j. c.requires.zeros (c.args.start + j) (let over = c.if-len-start.true in omega arith)))
