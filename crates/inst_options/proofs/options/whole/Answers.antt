use Rattle.std.proofs.Common.{◌^◌, sym, subst, IfOk, OnErr}
use Rattle.std.specs.Str.Parse.{ParsesUnsigned, ExplainsUnsignedError, HasUnsignedDigitsIfOk}
use Rattle.clap.specs.Words.{found_of, rows_of}
use Rattle.inst_options.specs.Options.{Gives, GivesNoneBelow}
use Rattle.inst_options.proofs.OptionTextsAndNumbers.{none_given, number_given}
use Rattle.inst_options.proofs.options.whole.Goals as goal

pub returns-clause-number : goal.returns-clause-number
returns-clause-number c =
    let options = found_of c.args.options.now in
    subst (λ result. IfOk result (Gives (rows_of options) c.args.name.now)) (sym c.ok_or.ensures.value)
    (number_given (λ text q. ParsesUnsigned 64 10 text q × ExplainsUnsignedError 10 text q × HasUnsignedDigitsIfOk text q) options c.args.name.now c.get_one.result _ c.get_one.ensures.none c.get_one.ensures.value (λ text q h. h.0))

pub returns-clause-none : goal.returns-clause-none
returns-clause-none c =
    let options = found_of c.args.options.now in
    subst (λ result. OnErr result (GivesNoneBelow (2 ^ 64) (rows_of options) c.args.name.now)) (sym c.ok_or.ensures.value)
    (none_given (λ text q. ParsesUnsigned 64 10 text q × ExplainsUnsignedError 10 text q × HasUnsignedDigitsIfOk text q) options c.args.name.now c.get_one.result _ c.get_one.ensures.value (λ text q h. h.0))
