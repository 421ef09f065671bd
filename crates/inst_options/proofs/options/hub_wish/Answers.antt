use Rattle.std.proofs.Common.{◌≡◌, ◌⊎◌, ◌∙◌, true, codes, inl, inr, refl, sym}
use Rattle.clap.specs.Words.{found_of, rows_of}
use Rattle.inst_settings.specs.Settings.{same_text}
use Rattle.inst_options.specs.Options.{AreOfNoLog}
use Rattle.inst_options.specs.inner.Options.{AskForNone, ChooseNone}
use Rattle.inst_options.proofs.OptionsWithoutSettings.{no_other, none_of_all, numberless, passed_more, passed_on}
use Rattle.inst_options.proofs.options.hub_wish.Goals as goal

pub returns-in_err-settings-clause-fault : goal.returns-in_err-settings-clause-fault
returns-in_err-settings-clause-fault c =
    let name = c.args.name.now in
    let rows = rows_of (found_of c.args.options.now) in
    let told = c.from_residual-in_err-settings in
    passed_more (AskForNone name rows ⊎ AreOfNoLog rows) (ChooseNone rows) told.result c.in_err-settings.field-0.0
    told.ensures.1 (λ none. inl (none_of_all name rows c.requires.hub none)) c.in_err-settings.ensures.fault

pub returns-in_err-log-clause-fault : goal.returns-in_err-log-clause-fault
returns-in_err-log-clause-fault c =
    let name = c.args.name.now in
    let rows = rows_of (found_of c.args.options.now) in
    let told = c.from_residual-in_err-log in
    let log = c.in_err-log.ensures in
    passed_on (AskForNone name rows ⊎ AreOfNoLog rows) told.result c.in_err-log.field-0.0 told.ensures.1
    log.fault (inr log.none)

pub returns-in_err-transfers-clause-fault : goal.returns-in_err-transfers-clause-fault
returns-in_err-transfers-clause-fault c =
    let name = c.args.name.now in
    let rows = rows_of (found_of c.args.options.now) in
    let drill : same_text name (codes "drill") ≡ true = sym c.eq.ensures ∙ c.if-eq.true in
    let told = c.from_residual in
    let numbers = c.in_err-transfers.ensures in
    numberless name rows told.result c.in_err-transfers.field-0.0 c.requires.hub (no_other name (codes "drill") (codes "play") drill refl) drill told.ensures.1 numbers.none numbers.fault

pub returns-then-eq-clause-wish : goal.returns-then-eq-clause-wish
returns-then-eq-clause-wish c =
    let settings = c.in_ok-settings.ensures in
    let drill : same_text c.args.name.now (codes "drill") ≡ true = sym c.eq.ensures ∙ c.if-eq.true in (
      settings.lawful,
      (no_other c.args.name.now (codes "drill") (codes "play") drill refl, drill, c.in_ok-transfers.ensures.drill),
      settings.chosen,
      c.text_given-script.ensures,
    )

pub returns-then-eq-2-clause-wish : goal.returns-then-eq-2-clause-wish
returns-then-eq-2-clause-wish c =
    let settings = c.in_ok-settings-2.ensures in
    let check : same_text c.args.name.now (codes "check") ≡ true = sym c.eq-2.ensures ∙ c.if-eq-2.true in (
      settings.lawful,
      (no_other c.args.name.now (codes "check") (codes "play") check refl, sym c.eq.ensures ∙ c.if-eq.false, check),
      settings.chosen,
    )

pub returns-then-eq-3-clause-wish : goal.returns-then-eq-3-clause-wish
returns-then-eq-3-clause-wish c =
    let settings = c.in_ok-settings-3.ensures in (
      settings.lawful,
      sym c.eq-3.ensures ∙ c.if-eq-3.true,
      settings.chosen,
      c.in_ok-log.ensures.log,
      c.flag-sums.ensures,
    )

pub returns-clause-wish : goal.returns-clause-wish
returns-clause-wish c =
    let settings = c.in_ok-settings-3.ensures in (
      settings.lawful,
      (sym c.eq-3.ensures ∙ c.if-eq-3.false, sym c.eq.ensures ∙ c.if-eq.false, sym c.eq-2.ensures ∙ c.if-eq-2.false),
      settings.chosen,
      c.in_ok-log.ensures.log,
      c.flag-sums.ensures,
    )
