use Rattle.std.proofs.Common.{◌∙◌, ⊎_elim}
use Rattle.clap.specs.Words.{found_of}
use Rattle.clap.proofs.WalkLemmas.{one_text-rows}
use Rattle.inst_options.proofs.options.flag.Goals as goal

pub returns : goal.returns
returns c =
    let same = one_text-rows (found_of c.args.options.now) c.args.name.now in (
      (λ is. c.get_flag.ensures.value (same ∙ is)),
      (λ other. ⊎_elim (λ is. c.get_flag.ensures.none (same ∙ is)) (λ is. c.get_flag.ensures.other (same ∙ is)) other),
    )
