use Rattle.std.proofs.Common.{◌≡◌, ◌∙◌, ◌+◌, ◌≤◌, ◌||◌, ℕ, List, length, ap, ap₂, sym, drop, arith}
use Rattle.std.proofs.lemmas.List.{at_drop_more, drop_all}
use Rattle.clap.specs.Simple.{app_of_fields}
use Rattle.clap.specs.Words.{App, app_of, with_rule}
use Rattle.inst_options.specs.CommandLine.{with_rules}
use Rattle.inst_options.specs.inner.Table.{with_groups}
use Rattle.inst_options.specs.declared.table.OptionRow.{OptionRow}
use Rattle.inst_options.specs.declared.table.Group.{Group}
use Rattle.inst_options.proofs.command_line.subcommand.Invariants.{with_choices}
use Rattle.inst_options.proofs.command_line.subcommand.Goals as goal

-- at the end no option is to come
all_chosen : (before after : App) (choices : List OptionRow) (n : ℕ) → length choices ≤ n →
    with_choices after (drop n choices) ≡ with_choices before choices → after ≡ with_choices before choices
all_chosen before after choices n most is = ap (with_choices after) (sym (drop_all n choices most)) ∙ is

-- and no group
all_there : (before after : App) (groups : List Group) (n : ℕ) → length groups ≤ n →
    with_groups after (drop n groups) ≡ with_groups before groups → after ≡ with_groups before groups
all_there before after groups n most is = ap (with_groups after) (sym (drop_all n groups most)) ∙ is

-- one option more
pub loop-choice-preserved : goal.loop-choice-preserved
loop-choice-preserved c =
    let at = c.loop-choice in
    let choices = c.choices-choice-items.result.now in
    let added = c.in_ok-command.ensures in
    let own = c.argument.ensures in
    let with_one = added.shape own.local ∙ ap (with_rule (app_of at.command)) own.rule in (
      ap (λ (a : App). with_choices a (drop (at.choice-index + 1) choices)) with_one
          ∙ sym (at_drop_more (with_choices (app_of at.command)) choices at.choice-index _ c.loop-choice-test.true)
          ∙ at.invariant.0,
      added.globals ∙ ap₂ (λ a b. a || b) at.invariant.1 own.local,
    )

-- one group more
pub loop-group-preserved : goal.loop-group-preserved
loop-group-preserved c =
    let at = c.loop-group in
    let last = c.loop-choice in
    let groups = c.args.row.now.groups.now in
    let choices = c.choices-choice-items.result.now in
    let most : length choices ≤ last.choice-index = omega (arith, c.loop-choice-test.false) in
    let with_all = all_chosen (app_of at.command) (app_of last.command) choices last.choice-index most last.invariant.0
    ∙ ap (with_rules (app_of at.command)) c.choices-choice-items.ensures in (
      ap (λ (a : App). with_groups a (drop (at.group-index + 1) groups)) with_all
          ∙ sym (at_drop_more (with_groups (app_of at.command)) groups at.group-index _ c.loop-group-test.true)
          ∙ at.invariant.0,
      last.invariant.1,
    )

pub returns-in-None-clause-shape : goal.returns-in-None-clause-shape
returns-in-None-clause-shape c =
    let at = c.loop-group in
    let groups = c.args.row.now.groups.now in
    let most : length groups ≤ at.group-index = omega (arith, c.loop-group-test.false) in
    let bare = ap app_of_fields c.long_about-command.ensures ∙ ap app_of_fields c.about.ensures ∙ c.new.ensures.app in
    all_there _ _ groups at.group-index most at.invariant.0 ∙ ap (λ (a : App). with_groups a groups) bare

pub returns-in-None-clause-local : goal.returns-in-None-clause-local
returns-in-None-clause-local c = c.loop-group.invariant.1

pub returns-in-Some-clause-shape : goal.returns-in-Some-clause-shape
returns-in-Some-clause-shape c =
    let at = c.loop-group in
    let groups = c.args.row.now.groups.now in
    let most : length groups ≤ at.group-index = omega (arith, c.loop-group-test.false) in
    let bare = ap app_of_fields c.long_about-command.ensures ∙ ap app_of_fields c.about.ensures ∙ c.new.ensures.app in
    ap app_of_fields c.after_help.ensures
    ∙ all_there _ _ groups at.group-index most at.invariant.0
    ∙ ap (λ (a : App). with_groups a groups) bare

pub returns-in-Some-clause-local : goal.returns-in-Some-clause-local
returns-in-Some-clause-local c = ap (λ fields. fields.has_globals) c.after_help.ensures ∙ c.loop-group.invariant.1
