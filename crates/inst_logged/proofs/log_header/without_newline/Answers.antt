use Rattle.inst_logged.proofs.FirstLine.{stripped}
use Rattle.inst_logged.proofs.log_header.without_newline.Goals as goal

pub returns : goal.returns
returns c = λ text quiet is.
    rw c.unwrap_or.ensures (stripped (λ b. b.now) c.args.line text quiet c.strip_suffix.result c.strip_suffix.ensures.cases is)
