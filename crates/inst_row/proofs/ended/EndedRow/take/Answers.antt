use Rattle.std.proofs.Common.{rules}
use Rattle.inst_row.proofs.ended.EndedRow.take.Goals as goal

pub returns-clause-value : goal.returns-clause-value
returns-clause-value g c = search rules

pub returns-clause-out : goal.returns-clause-out
returns-clause-out g c = search rules

pub returns-clause-others : goal.returns-clause-others
returns-clause-others g c = record { locks = search rules; there = search rules; out = search rules }

pub take-requires : goal.take-requires
take-requires g c = search rules
