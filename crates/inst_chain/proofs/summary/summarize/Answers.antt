use Rattle.inst_chain.proofs.SummaryOfLines.{started}
use Rattle.inst_chain.proofs.summary.summarize.Goals as goal

pub loop-init : goal.loop-init
loop-init g c = started (g.R.Read.remaining c.args.reader.now) _ c.new-reading.ensures
