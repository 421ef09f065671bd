use Rattle.std.proofs.Common.{refl}
use Rattle.inst_log.proofs.FilesOpenWithSettings.{begins_test}
use Rattle.inst_log.proofs.opening.begins.Goals as goal

pub returns : goal.returns
returns c = begins_test c.args.settings.now c.args.bytes.now _ c.starts_with.result c.requires.settings refl c.starts_with.ensures.value
