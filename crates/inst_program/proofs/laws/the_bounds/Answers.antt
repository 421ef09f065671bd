use Rattle.std.proofs.Common.{refl}
use Rattle.inst_program.proofs.laws.the_bounds.Goals as goal

pub returns-clause-values : goal.returns-clause-values
returns-clause-values c = record { cents = refl; code = refl; branch_code = refl; identifier = refl; reason = refl; last = refl; count = refl }

pub returns-clause-settings : goal.returns-clause-settings
returns-clause-settings c = record { participants = refl; places = refl; fundings = refl; limit = refl; ahead = refl; ceiling = refl; base = refl }

pub returns-clause-runs : goal.returns-clause-runs
returns-clause-runs c = record { openings = refl; drill_openings = refl; lines = refl; bytes = refl; line_bytes = refl }
