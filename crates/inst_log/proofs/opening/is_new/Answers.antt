use Rattle.inst_log.proofs.FilesOpenWithSettings.{new_test}
use Rattle.inst_log.proofs.CrashDuringAppend.{tail_is}
use Rattle.inst_log.proofs.opening.is_new.Goals as goal

pub returns : goal.returns
returns c =
    new_test c.args.settings.now c.args.bytes.now _ _ c.eq.result c.if-bytes-le1.false c.if-is_blank.ensures (tail_is c.args.bytes.now) (tail_is c.args.settings.now) c.eq.ensures
