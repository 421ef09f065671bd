use Rattle.std.proofs.Common.{sym, arith}
use Rattle.std.proofs.lemmas.List.{length-take-le, take_all}
use Rattle.inst_options.proofs.shown.first_bytes.Goals as goal

pub slice_bounds-result-end : goal.slice_bounds-result-end
slice_bounds-result-end c = sym (length-take-le 200 c.args.bytes.now (omega (arith, c.if-bytes-le-MOST_SHOWN.false)))

pub returns-then-bytes-le-MOST_SHOWN : goal.returns-then-bytes-le-MOST_SHOWN
returns-then-bytes-le-MOST_SHOWN c = sym (take_all 200 c.args.bytes.now c.if-bytes-le-MOST_SHOWN.true)
