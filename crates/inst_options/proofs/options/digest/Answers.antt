use Rattle.std.proofs.Common.{codes, sym, ◌∙◌}
use Rattle.clap.specs.Words.{found_of}
use Rattle.inst_options.proofs.OptionsOfLog.{given_text, given_none}
use Rattle.inst_options.proofs.options.digest.Goals as goal

pub returns-in-Some-clause-digest : goal.returns-in-Some-clause-digest
returns-in-Some-clause-digest c = (
  given_text (found_of c.args.options.now) (codes "digest") c.get_str.result c.in-Some.text c.get_str.ensures c.in-Some.is,
  rw c.as_bytes.ensures.value at (sym c.is_digest.ensures ∙ c.if-is_digest.true),
)

pub returns-in-Some-2-clause-none : goal.returns-in-Some-2-clause-none
returns-in-Some-2-clause-none c = (
  c.in-Some.text.now,
  given_text (found_of c.args.options.now) (codes "digest") c.get_str.result c.in-Some.text c.get_str.ensures c.in-Some.is,
  rw c.as_bytes.ensures.value at (sym c.is_digest.ensures ∙ c.if-is_digest.false),
)

pub returns-in-None-clause-digest : goal.returns-in-None-clause-digest
returns-in-None-clause-digest c = (given_none (found_of c.args.options.now) (codes "digest") c.get_str.result c.get_str.ensures c.in-None.is, tt)
