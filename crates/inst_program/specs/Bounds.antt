-- The bounds of a hub and its lines as numbers. The law `the_bounds` fails if one is changed in the
-- code. A choice of this hub.
use Rattle.std.specs.Prelude.{◌≡◌, ◌-◌, ◌^◌}
use Rattle.inst_base.specs.declared.cents.TheConstants.{MOST_CENTS}
use Rattle.inst_base.specs.declared.code.TheConstants.{CODE_LENGTH, BRANCH_CODE_LENGTH}
use Rattle.inst_base.specs.declared.ident.TheConstants.{MOST_IDENTIFIER_LENGTH}
use Rattle.inst_base.specs.declared.moment.TheConstants.{LAST}
use Rattle.inst_base.specs.declared.reason.TheConstants.{REASON_LENGTH}
use Rattle.inst_settings.specs.declared.ranges.TheConstants.{MOST_PARTICIPANTS, MOST_PLACES}
use Rattle.inst_settings.specs.declared.ranges.TheConstants.{MOST_FUNDINGS, MOST_LIMIT, MOST_AHEAD}
use Rattle.inst_settings.specs.declared.ranges.TheConstants.{MOST_CEILING, MOST_BASE}
use Rattle.inst_command.specs.declared.count.TheConstants.{MOST_COUNT}
use Rattle.inst_journal.specs.declared.opened.TheConstants.{MOST_OPENINGS}
use Rattle.inst_lines.specs.declared.limits.TheConstants.{MOST_LINES, MOST_BYTES, MOST_LINE_BYTES}
use Rattle.inst_drill.specs.declared.plan.TheConstants.{MOST_DRILL_OPENINGS}

-- The bounds of values: cents, bytes of a text, milliseconds since the base.
pub record AreBoundsOfValues : Type 0 where
  pub cents : MOST_CENTS ≡ 99999999999
  pub code : CODE_LENGTH ≡ 8
  pub branch_code : BRANCH_CODE_LENGTH ≡ 11
  pub identifier : MOST_IDENTIFIER_LENGTH ≡ 35
  pub reason : REASON_LENGTH ≡ 4
  pub last : LAST ≡ 2 ^ 41 - 1
  pub count : MOST_COUNT ≡ 100

-- The bounds of settings: numbers of participants, transfers and fundings, milliseconds, cents.
pub record AreBoundsOfSettings : Type 0 where
  pub participants : MOST_PARTICIPANTS ≡ 256
  pub places : MOST_PLACES ≡ 1024
  pub fundings : MOST_FUNDINGS ≡ 1024
  pub limit : MOST_LIMIT ≡ 3600000
  pub ahead : MOST_AHEAD ≡ 60000
  pub ceiling : MOST_CEILING ≡ 99999999999
  pub base : MOST_BASE ≡ 2 ^ 62

-- The bounds of runs: openings in a row, openings of a drill, lines, bytes, bytes of a line.
pub record AreBoundsOfRuns : Type 0 where
  pub openings : MOST_OPENINGS ≡ 500
  pub drill_openings : MOST_DRILL_OPENINGS ≡ 10
  pub lines : MOST_LINES ≡ 1000000
  pub bytes : MOST_BYTES ≡ 2 ^ 32
  pub line_bytes : MOST_LINE_BYTES ≡ 4096
