use Rattle.std.proofs.Common.{◌^◌, arith}
use Rattle.clap.specs.Words.{found_of, rows_of}
use Rattle.inst_options.specs.Options.{GivesNoneBelow}
use Rattle.inst_options.proofs.OptionTextsAndNumbers.{none_lower, on_err}
use Rattle.inst_options.proofs.OptionsWithoutSettings.{none_narrow}
use Rattle.inst_options.proofs.options.medium.Goals as goal

pub returns-in_err-whole-clause-none : goal.returns-in_err-whole-clause-none
returns-in_err-whole-clause-none c =
    let rows = rows_of (found_of c.args.options.now) in
    on_err c.from_residual.result (GivesNoneBelow (2 ^ 32) rows c.args.name.now)
    (none_lower (2 ^ 32) (2 ^ 64) rows c.args.name.now (omega arith) c.in_err-whole.ensures.none)

pub returns-clause-none : goal.returns-clause-none
returns-clause-none c =
    let rows = rows_of (found_of c.args.options.now) in
    none_narrow c.try_from.result c.map_err.result (2 ^ 32) c.in_ok-whole.field-0 rows c.args.name.now c.map_err.ensures.variant c.try_from.ensures c.in_ok-whole.ensures.number
