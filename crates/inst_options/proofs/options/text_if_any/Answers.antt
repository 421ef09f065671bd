use Rattle.std.proofs.Common.{subst, sym}
use Rattle.clap.specs.Words.{found_of, rows_of}
use Rattle.inst_options.specs.Options.{IsText}
use Rattle.inst_options.proofs.OptionTextsAndNumbers.{text_or_none}
use Rattle.inst_options.proofs.options.text_if_any.Goals as goal

pub returns : goal.returns
returns c = subst (λ text. IsText c.args.name.now (rows_of (found_of c.args.options.now)) text.now) (sym c.unwrap_or.ensures)
    (text_or_none (found_of c.args.options.now) c.args.name.now c.get_str.result _ c.get_str.ensures)
