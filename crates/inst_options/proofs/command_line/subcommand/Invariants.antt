use Rattle.std.proofs.Common.{◌≡◌, List, drop, map}
use Rattle.clap.specs.Words.{App, app_of}
use Rattle.inst_options.specs.CommandLine.{with_rules}
use Rattle.inst_options.specs.inner.CommandLine.{HasOwnOptions}
use Rattle.inst_options.specs.inner.Table.{rule_of_choice, with_groups}
use Rattle.inst_options.specs.declared.table.OptionRow.{OptionRow}
use Rattle.inst_options.proofs.command_line.subcommand.Given as goal

-- with the options of these rows
abbrev pub with_choices : App → List OptionRow → App
with_choices app choices = with_rules app (map rule_of_choice choices)

-- the options that are still to come make of the command what all of them make of it as the loop begins
abbrev pub invariant-loop-choice : goal.invariant-loop-choice
invariant-loop-choice l =
    (with_choices (app_of l.command) (drop l.choice-index l.choice-items)
    ≡ with_choices (app_of l.initial.command) l.choice-items)
    × HasOwnOptions l.command

-- and so do the groups
abbrev pub invariant-loop-group : goal.invariant-loop-group
invariant-loop-group l =
    (with_groups (app_of l.command) (drop l.group-index l.group-items)
    ≡ with_groups (app_of l.initial.command) l.group-items)
    × HasOwnOptions l.command
