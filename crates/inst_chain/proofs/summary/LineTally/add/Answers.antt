use Rattle.std.proofs.Common.{sym, ◌∙◌}
use Rattle.inst_chain.proofs.SummaryOfLines.{longer_wrong, none_wrong, wrong_now}
use Rattle.inst_log.specs.Layout.{recovered_lines}
use Rattle.inst_chain.proofs.summary.LineTally.add.Goals as goal

pub returns-then-is_some : goal.returns-then-is_some
returns-then-is_some c = λ done t. record {
  sees = c.in_ok-add.ensures done t.sees;
  checked = longer_wrong c.args.self.now.wrong c.args.self.now.checker c.args.self.now.checker done (recovered_lines c.args.bytes.now) (sym c.is_some.ensures ∙ c.if-is_some.true) t.checked;
}

pub returns-in-Err : goal.returns-in-Err
returns-in-Err c = λ done t. record {
  sees = c.in_ok-add.ensures done t.sees;
  checked =
      wrong_now c.args.self.now.checker done c.args.bytes.now c.in-Err.right
      (none_wrong c.args.self.now.wrong c.args.self.now.checker done (sym c.is_some.ensures ∙ c.if-is_some.false) t.checked) c.in-Err.ensures.wrong;
}
