use Rattle.std.proofs.lemmas.Result.{on_ok_weaker}
use Rattle.inst_log.proofs.FilesOpenWithSettings.{blanked}
use Rattle.inst_log.proofs.opening.blank.Goals as goal

pub returns-clause-written : goal.returns-clause-written
returns-clause-written g c = on_ok_weaker c.write_synced.result (λ written clean. blanked _ _ c.write_synced.ensures.others written) c.write_synced.ensures.written
