-- The rows of the table of ranges.
use Rattle.inst_options.specs.BadOptions.{Range, range}
use Rattle.inst_options.specs.declared.bad_option.Bound.{Bound}

-- The range of a row.
abbrev pub range_of : Bound → Range
range_of bound = range bound.name.now bound.least bound.most bound.range.now
