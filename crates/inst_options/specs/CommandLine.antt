-- The program's command line. Its words are a choice of this hub.
use Rattle.std.specs.Prelude.{◌-◌, ◌^◌, ℕ, true, false, List, ◌∷◌, [], ◌++◌, Some, codes}
use Rattle.clap.specs.Words.{App, Rule, Shape, new_app, new_rule, with_rule, with_subcommand}
use Rattle.clap.specs.Simple.{on_top}
use Rattle.clap.specs.declared.builder.action.ArgAction.TheVariants.{Append, Set, SetTrue}
use Rattle.clap.specs.declared.builder.value_parser.ValueParser.TheVariants.{Unsigned}

-- The participants' codes; required.
abbrev pub participants_rule : Rule
participants_rule =
    record (new_rule (codes "participants")) {
      long = Some (codes "participants");
      required =
          true;
      action = Some Set;
      value_names = 1;
    }

-- A whole number of 64 bits, with its default.
abbrev pub number_rule : List ℕ → List ℕ → Rule
number_rule name value =
    record (new_rule name) {
      long = Some name;
      action = Some Set;
      parser =
          Some (Unsigned 0 (2 ^ 64 - 1));
      defaults = value ∷ [];
      value_names = 1;
    }

-- A whole number of 64 bits, without a default.
abbrev pub change_rule : List ℕ → Rule
change_rule name = record (number_rule name []) { defaults = [] }

-- The file of a log, as the positional word of `log`; required.
abbrev pub file_rule : Rule
file_rule = record (new_rule (codes "file")) { required = true; action = Some Set; value_names = 1 }

-- The files of logs, as the positional words of `audit`; at least one.
abbrev pub files_rule : Rule
files_rule =
    record (new_rule (codes "files")) { required = true; action = Some Append; value_names = 1 }

-- The file of a run's log.
abbrev pub log_rule : Rule
log_rule =
    record (new_rule (codes "log")) {
      long = Some (codes "log");
      action = Some Set;
      value_names =
          1;
    }

-- The file of a log, as an option of `next`; required.
abbrev pub named_rule : List ℕ → Rule
named_rule name =
    record (new_rule name) { long = Some name; required = true; action = Some Set; value_names = 1 }

-- The number of replies that the client has, of 64 bits.
abbrev pub told_rule : Rule
told_rule = change_rule (codes "told")

-- The log must exist.
abbrev pub resume_rule : Rule
resume_rule =
    record (new_rule (codes "resume")) { long = Some (codes "resume"); action = Some SetTrue }

-- A digest that the log must contain.
abbrev pub digest_rule : Rule
digest_rule =
    record (new_rule (codes "digest")) {
      long = Some (codes "digest");
      action =
          Some Set;
      value_names = 1;
    }

-- A summary is printed at the end of a run.
abbrev pub summary_rule : Rule
summary_rule =
    record (new_rule (codes "summary")) { long = Some (codes "summary"); action = Some SetTrue }

-- The number or name of a fault, as the positional word of `explain`; required.
abbrev pub fault_rule : Rule
fault_rule =
    record (new_rule (codes "fault")) { required = true; action = Some Set; value_names = 1 }

-- The settings of a hub: participants, capacities, times, maximum amount and base.
abbrev pub hub_rules : List Rule
hub_rules =
    participants_rule
    ∷ number_rule (codes "places") (codes "256")
    ∷ number_rule (codes "fundings") (codes "256")
    ∷ number_rule (codes "limit") (codes "10000")
    ∷ number_rule (codes "margin") (codes "0")
    ∷ number_rule (codes "ahead") (codes "1000")
    ∷ number_rule (codes "ceiling") (codes "99999999999")
    ∷ number_rule (codes "base") (codes "0")
    ∷ []

-- The further options of a run: its log, and a summary.
abbrev pub run_rules : List Rule
run_rules = log_rule ∷ told_rule ∷ resume_rule ∷ digest_rule ∷ summary_rule ∷ []

-- The file for the script of a drill.
abbrev pub script_rule : Rule
script_rule =
    record (new_rule (codes "script")) {
      long = Some (codes "script");
      action =
          Some Set;
      value_names = 1;
    }

-- The further options of a drill: the numbers of transfers and openings, and the file for its
-- script.
abbrev pub drill_rules : List Rule
drill_rules =
    number_rule (codes "transfers") (codes "200") ∷ number_rule (codes "openings") (codes "1")
    ∷ script_rule ∷ []

-- The codes of all participants after an opening.
abbrev pub codes_rule : Rule
codes_rule = record participants_rule { required = false }

-- The settings that `next` can change.
abbrev pub change_rules : List Rule
change_rules =
    codes_rule ∷ change_rule (codes "places") ∷ change_rule (codes "fundings")
    ∷ change_rule (codes "limit")
    ∷ change_rule (codes "margin")
    ∷ change_rule (codes "ahead")
    ∷ change_rule (codes "ceiling")
    ∷ change_rule (codes "base")
    ∷ []

-- The second log begins with the positions alone.
abbrev pub positions_rule : Rule
positions_rule =
    record (new_rule (codes "positions")) { long = Some (codes "positions"); action = Some SetTrue }

-- The two logs of `next`, a digest that the first one must contain, and if only positions are
-- carried.
abbrev pub next_rules : List Rule
next_rules =
    named_rule (codes "log") ∷ named_rule (codes "to") ∷ digest_rule ∷ positions_rule ∷ []

-- The command line with these options, in order.
abbrev pub with_rules : App → List Rule → App
with_rules app [] = app
with_rules app (rule ∷ more) = with_rules (with_rule app rule) more

-- A subcommand of this name with these options.
abbrev pub subcommand : List ℕ → List Rule → Shape
subcommand name rules = (with_rules (new_app name) rules).top

-- All subcommands, in order.
abbrev pub subcommands : List Shape
subcommands =
    subcommand (codes "run") (hub_rules ++ run_rules)
    ∷ subcommand (codes "play") (hub_rules ++ run_rules)
    ∷ subcommand (codes "check") hub_rules
    ∷ subcommand (codes "drill") (hub_rules ++ drill_rules)
    ∷ subcommand (codes "log") (file_rule ∷ [])
    ∷ subcommand (codes "next") (next_rules ++ change_rules)
    ∷ subcommand (codes "audit") (files_rule ∷ [])
    ∷ subcommand (codes "explain") (fault_rule ∷ [])
    ∷ []

-- The command line with these subcommands.
abbrev pub with_subcommands : App → List Shape → App
with_subcommands app [] = app
with_subcommands app (sub ∷ more) = with_subcommands (with_subcommand app sub) more

-- The program without its subcommands. One of them is required, and `--version` prints the version.
abbrev pub bare_command_line : App
bare_command_line =
    on_top (λ top.
    record top { has_version = true; subcommand_required = true }) (new_app (codes "inst_main"))

-- The whole command line.
abbrev pub command_line : App
command_line = with_subcommands bare_command_line subcommands
