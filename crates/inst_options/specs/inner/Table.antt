-- The tables of subcommands and options, as `clap` reads a command line.
use Rattle.std.specs.Prelude.{◌-◌, ◌^◌, List, ◌∷◌, [], Option, Some, None, length, map}
use Rattle.clap.specs.Words.{App, Rule, Text, new_app, new_rule, with_subcommand}
use Rattle.clap.specs.declared.builder.action.ArgAction.{ArgAction}
use Rattle.clap.specs.declared.builder.action.ArgAction.TheVariants.{Append, Set, SetTrue}
use Rattle.clap.specs.declared.builder.value_parser.ValueParser.{ValueParser}
use Rattle.clap.specs.declared.builder.value_parser.ValueParser.TheVariants.{Unsigned}
use Rattle.inst_options.specs.CommandLine.{change_rules, drill_rules, fault_rule, file_rule, files_rule}
use Rattle.inst_options.specs.CommandLine.{hub_rules, next_rules, run_rules}
use Rattle.inst_options.specs.CommandLine.{with_rules}
use Rattle.inst_options.specs.declared.table.OptionRow.{OptionRow}
use Rattle.inst_options.specs.declared.table.Group.{Group}
use Rattle.inst_options.specs.declared.table.Group.TheVariants.{Hub, Run, Drill, Log, Next, Changes}
use Rattle.inst_options.specs.declared.table.Group.TheVariants.{Audit, Explain}
use Rattle.inst_options.specs.declared.table.Kind.{Kind}
use Rattle.inst_options.specs.declared.table.Kind.TheVariants.{Flag, Word, Words, Text as OfText, Number}
use Rattle.inst_options.specs.declared.table.Subcommand.{Subcommand}

-- A flag becomes true, words are collected, and any other option takes its value.
abbrev pub action_of : Kind → ArgAction
action_of Flag = SetTrue
action_of Word = Set
action_of Words = Append
action_of OfText = Set
action_of Number = Set

-- The name of an option; a positional word has none.
abbrev pub long_of : Kind → Text → Option Text
long_of Flag name = Some name
long_of Word name = None
long_of Words name = None
long_of OfText name = Some name
long_of Number name = Some name

-- A number has 64 bits.
abbrev pub parser_of : Kind → Option ValueParser
parser_of Flag = None
parser_of Word = None
parser_of Words = None
parser_of OfText = None
parser_of Number = Some (Unsigned 0 (2 ^ 64 - 1))

-- The rule of an option.
abbrev pub rule_of_choice : OptionRow → Rule
rule_of_choice choice = record (new_rule choice.name.now) {
  long = long_of choice.kind choice.name.now;
  required = choice.required;
  action = Some (action_of choice.kind);
  parser = parser_of choice.kind;
  value_names = length choice.value_names.now;
  defaults = map (λ text. text.now) choice.defaults.now;
}

-- The options of a group.
abbrev pub rules_of : Group → List Rule
rules_of Hub = hub_rules
rules_of Run = run_rules
rules_of Drill = drill_rules
rules_of Log = file_rule ∷ []
rules_of Next = next_rules
rules_of Changes = change_rules
rules_of Audit = files_rule ∷ []
rules_of Explain = fault_rule ∷ []

-- The command line with the options of these groups.
abbrev pub with_groups : App → List Group → App
with_groups app [] = app
with_groups app (group ∷ more) = with_groups (with_rules app (rules_of group)) more

-- A subcommand with its options.
abbrev pub app_of_row : Subcommand → App
app_of_row row = with_groups (new_app row.name.now) row.groups.now

-- The command line with the subcommands of a table, in order.
abbrev pub with_rows : App → List Subcommand → App
with_rows app [] = app
with_rows app (row ∷ more) = with_rows (with_subcommand app (app_of_row row).top) more
