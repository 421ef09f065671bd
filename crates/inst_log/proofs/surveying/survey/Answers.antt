use Rattle.std.proofs.Common.{[], refl}
use Rattle.inst_log.proofs.surveying.survey.Goals as goal

pub loop-lines-init : goal.loop-lines-init
loop-lines-init g c = record {
  reading = λ clean. ([], c.in_ok-lines.ensures.reading clean [] (g.D.Disk.seen c.args.disk.now) refl refl refl);
  read = c.new.ensures.read;
  calm = c.in_ok-lines.ensures.cause;
}
