use Rattle.inst_world_tests.proofs.Echoes.{blocks_begin}
use Rattle.inst_world_tests.proofs.log.runs.told.Goals as goal

pub run_twice-requires-clause-answers : goal.run_twice-requires-clause-answers
run_twice-requires-clause-answers c = record {
  same = λ replies is. is;
  begins = blocks_begin;
}
