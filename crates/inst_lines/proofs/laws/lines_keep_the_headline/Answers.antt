use Rattle.inst_lines.proofs.RunBehindLines.{lines_keep}
use Rattle.inst_lines.proofs.laws.lines_keep_the_headline.Goals as goal

pub returns : goal.returns
returns c = lines_keep
