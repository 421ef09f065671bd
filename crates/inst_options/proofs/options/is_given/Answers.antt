use Rattle.std.proofs.Common.{◌∙◌, sym}
use Rattle.clap.specs.Words.{found_of}
use Rattle.inst_options.proofs.OptionsOfLog.{given_some, some_given}
use Rattle.inst_options.proofs.options.is_given.Goals as goal

pub returns : goal.returns
returns c =
    let options = found_of c.args.options.now in (
      (λ is. given_some options c.args.name.now c.get_str.result c.get_str.ensures (sym c.is_some.ensures ∙ is)),
      (λ given. c.is_some.ensures ∙ some_given options c.args.name.now c.get_str.result c.get_str.ensures given),
    )
