use Rattle.std.proofs.Common.{sym, ◌∙◌, arith}
use Rattle.inst_json.proofs.AsciiFromPlace.{ascii_space}
use Rattle.inst_json.proofs.TokensAtLinePlaces.{lex_space}
use Rattle.inst_json.proofs.scanning.parts.skip_spaces.Goals as goal

pub loop-at-preserved : goal.loop-at-preserved
loop-at-preserved c = record {
  from = omega arith;
  within = omega arith;
  same = sym (lex_space c.args.text.now c.loop-at.at c.loop-at-test.true (sym c.is_space.ensures ∙ c.if-is_space.true)) ∙ c.loop-at.invariant.same;
  ascii = λ rest. c.loop-at.invariant.ascii (ascii_space c.args.text.now c.loop-at.at c.loop-at-test.true (sym c.is_space.ensures ∙ c.if-is_space.true) rest);
}
