use Rattle.std.proofs.Common.{◌≡◌, refl}
use Rattle.inst_log.specs.Layout.{recovered_lines, blocks}
use Rattle.inst_world_tests.proofs.Echoes.{blocks_on, on_ok}
use Rattle.inst_world_tests.proofs.log.runs.EchoResponder.answer.Goals as goal

pub returns-clause-on : goal.returns-clause-on
returns-clause-on c = on_ok c.extend_from_slice.result (blocks_on (λ replies. replies ≡ blocks) (recovered_lines c.args.batch.now) refl)
