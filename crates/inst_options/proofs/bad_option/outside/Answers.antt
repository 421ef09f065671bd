use Rattle.clap.specs.Words.{found_of, rows_of}
use Rattle.inst_options.specs.inner.BadOptions.{range_of}
use Rattle.inst_options.proofs.Ranges.{inside_without}
use Rattle.inst_options.proofs.bad_option.outside.Goals as goal

pub returns-in_default-clause-outside : goal.returns-in_default-clause-outside
returns-in_default-clause-outside c = inside_without (rows_of (found_of c.args.options.now)) (range_of c.args.bound.now) c.in_default.ensures.none
