use Rattle.std.specs.Str.Parse.{ParsesUnsigned, ExplainsUnsignedError, HasUnsignedDigitsIfOk}
use Rattle.clap.specs.Words.{found_of}
use Rattle.inst_options.proofs.OptionsOfLog.{given_or_not}
use Rattle.inst_options.proofs.options.number_given.Goals as goal

pub returns : goal.returns
returns c =
    given_or_not (λ text q. ParsesUnsigned 64 10 text q × ExplainsUnsignedError 10 text q × HasUnsignedDigitsIfOk text q) (found_of c.args.options.now) c.args.name.now c.get_one.result
    c.get_one.ensures.none c.get_one.ensures.value (λ text q h. h.0)
