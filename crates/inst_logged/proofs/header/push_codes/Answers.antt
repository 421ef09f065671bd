use Rattle.std.proofs.Common.{rules}
use Rattle.inst_logged.proofs.Headings.{listed_next, listed_all}
use Rattle.inst_logged.proofs.header.push_codes.Goals as goal

pub loop-number-preserved : goal.loop-number-preserved
loop-number-preserved c = listed_next c.args.settings.now.codes c.loop-number.number _ _ _ (search rules) c.in_ok-push_code.ensures c.loop-number.invariant

pub returns : goal.returns
returns c = listed_all c.args.settings.now.codes c.loop-number.number _ _ (search rules) c.loop-number.invariant
