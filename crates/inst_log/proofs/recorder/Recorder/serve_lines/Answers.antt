use Rattle.std.proofs.Common.{inl, ap, arith}
use Rattle.std.proofs.lemmas.Grind.{common_steps}
use Rattle.inst_log.specs.Layout.{recovered_lines}
use Rattle.inst_log.proofs.LogThatGainsLines.{stands_unwritten}
use Rattle.inst_log.proofs.ToldRepliesAreKept.{kept_before}
use Rattle.inst_log.proofs.recorder.Recorder.serve_lines.Goals as goal

pub returns-in_err-close_batch-clause-any_moment : goal.returns-in_err-close_batch-clause-any_moment
returns-in_err-close_batch-clause-any_moment g c clean =
    kept_before (g.A.Responder.says c.args.self.now.answers) _ _ _ _ (g.met.A.Responder.none c.args.self.now.answers)
    (λ left may. inl (ap recovered_lines ((c.requires.open.settled clean).durable left may)))

pub returns-in_err-close_batch-clause-stands : goal.returns-in_err-close_batch-clause-stands
returns-in_err-close_batch-clause-stands g c = stands_unwritten g.D.Disk (recovered_lines c.args.batch.now.items) c.args.self.now.log c.requires.open

pub close_batch-requires-clause-some : goal.close_batch-requires-clause-some
close_batch-requires-clause-some g c = grind (arith, common_steps)
