use Rattle.std.proofs.Common.{refl}
use Rattle.inst_options.specs.BadOptions.IsBad.{by_limit}
use Rattle.inst_options.proofs.bad_option.bad_margin.Goals as goal

pub returns-in-Ok-text : goal.returns-in-Ok-text
returns-in-Ok-text c = record {
  given = c.in-Ok-text.ensures.text;
  because = by_limit refl refl (c.in-Ok.limit, c.in-Ok-whole.margin, c.in-Ok.ensures.number, c.in-Ok-whole.ensures.number, c.if-limit-margin.true);
}
