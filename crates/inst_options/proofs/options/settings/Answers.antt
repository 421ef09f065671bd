use Rattle.std.proofs.Common.{◌≡◌, ◌^◌, ◌∙◌, Some, ap, codes, sym, subst}
use Rattle.std.proofs.lemmas.Result.{IfOk-weaker}
use Rattle.clap.specs.Words.{first_of, found_of, rows_of}
use Rattle.inst_options.specs.Options.{Gives, GivesNoneBelow, Chooses}
use Rattle.inst_options.specs.inner.Options.{ChooseNone}
use Rattle.inst_settings.specs.Parts.{parts_of}
use Rattle.inst_settings.specs.Settings.{HubSettings}
use Rattle.inst_settings.specs.Lawful.{IsSettings, settings_with}
use Rattle.inst_options.proofs.OptionsWithoutSettings.{none_in_range, no_places, no_fundings, no_limit, no_margin, no_ahead, no_ceiling, no_base, passed_on, refused_by}
use Rattle.inst_options.proofs.options.settings.Goals as goal

-- the settings of the options
abbrev settings_of : goal.After-check → HubSettings
settings_of c =
    settings_with c.in_ok-codes.codes.items c.in_ok-places.places c.in_ok-fundings.fundings c.in_ok-limit.limit c.in_ok-margin.margin
    c.in_ok-ahead.ahead c.in_ok-ceiling.ceiling c.in_ok-base.base

chosen : (c : goal.After-check) → Chooses (rows_of (found_of c.args.options.now)) (settings_of c)
chosen c =
    let rows = rows_of (found_of c.args.options.now) in
    let text : first_of (codes "participants") rows ≡ Some c.in_ok-participants.participants.now = c.in_ok-participants.ensures.text in
    let places : Gives rows (codes "places") c.in_ok-places.places = c.in_ok-places.ensures.number in
    let fundings : Gives rows (codes "fundings") c.in_ok-fundings.fundings = c.in_ok-fundings.ensures.number in
    let limit : Gives rows (codes "limit") c.in_ok-limit.limit = c.in_ok-limit.ensures.number in
    let margin : Gives rows (codes "margin") c.in_ok-margin.margin = c.in_ok-margin.ensures.number in
    let ahead : Gives rows (codes "ahead") c.in_ok-ahead.ahead = c.in_ok-ahead.ensures.number in
    let ceiling : Gives rows (codes "ceiling") c.in_ok-ceiling.ceiling = c.in_ok-ceiling.ensures.number in
    let base : Gives rows (codes "base") c.in_ok-base.base = c.in_ok-base.ensures.number in record {
      participants = (_, text, c.in_ok-codes.ensures.codes ∙ ap parts_of c.as_bytes.ensures.value);
      places = places;
      fundings = fundings;
      limit = limit;
      margin = margin;
      ahead = ahead;
      ceiling = ceiling;
      base = base;
    }

pub returns-clause-chosen : goal.returns-clause-chosen
returns-clause-chosen c =
    let rows = rows_of (found_of c.args.options.now) in
    IfOk-weaker c.check.result _ _ (λ settings is. subst (Chooses rows) (sym is.1) (chosen c)) c.check.ensures.ok

pub returns-in_err-places-clause-fault : goal.returns-in_err-places-clause-fault
returns-in_err-places-clause-fault c =
    let rows = rows_of (found_of c.args.options.now) in
    let none : GivesNoneBelow (2 ^ 16) rows (codes "places") = c.in_err-places.ensures.none in
    passed_on (ChooseNone rows) c.from_residual-in_err-places.result c.in_err-places.field-0.0 c.from_residual-in_err-places.ensures.1
    c.in_err-places.ensures.fault (no_places rows none)

pub returns-in_err-fundings-clause-fault : goal.returns-in_err-fundings-clause-fault
returns-in_err-fundings-clause-fault c =
    let rows = rows_of (found_of c.args.options.now) in
    let none : GivesNoneBelow (2 ^ 16) rows (codes "fundings") = c.in_err-fundings.ensures.none in
    passed_on (ChooseNone rows) c.from_residual-in_err-fundings.result c.in_err-fundings.field-0.0 c.from_residual-in_err-fundings.ensures.1
    c.in_err-fundings.ensures.fault (no_fundings rows none)

pub returns-in_err-limit-clause-fault : goal.returns-in_err-limit-clause-fault
returns-in_err-limit-clause-fault c =
    let rows = rows_of (found_of c.args.options.now) in
    let none : GivesNoneBelow (2 ^ 32) rows (codes "limit") = c.in_err-limit.ensures.none in
    passed_on (ChooseNone rows) c.from_residual-in_err-limit.result c.in_err-limit.field-0.0 c.from_residual-in_err-limit.ensures.1
    c.in_err-limit.ensures.fault (no_limit rows none)

pub returns-in_err-margin-clause-fault : goal.returns-in_err-margin-clause-fault
returns-in_err-margin-clause-fault c =
    let rows = rows_of (found_of c.args.options.now) in
    let none : GivesNoneBelow (2 ^ 32) rows (codes "margin") = c.in_err-margin.ensures.none in
    passed_on (ChooseNone rows) c.from_residual-in_err-margin.result c.in_err-margin.field-0.0 c.from_residual-in_err-margin.ensures.1
    c.in_err-margin.ensures.fault (no_margin rows none)

pub returns-in_err-ahead-clause-fault : goal.returns-in_err-ahead-clause-fault
returns-in_err-ahead-clause-fault c =
    let rows = rows_of (found_of c.args.options.now) in
    let none : GivesNoneBelow (2 ^ 32) rows (codes "ahead") = c.in_err-ahead.ensures.none in
    passed_on (ChooseNone rows) c.from_residual-in_err-ahead.result c.in_err-ahead.field-0.0 c.from_residual-in_err-ahead.ensures.1
    c.in_err-ahead.ensures.fault (no_ahead rows none)

pub returns-in_err-ceiling-clause-fault : goal.returns-in_err-ceiling-clause-fault
returns-in_err-ceiling-clause-fault c =
    let rows = rows_of (found_of c.args.options.now) in
    let none : GivesNoneBelow (2 ^ 64) rows (codes "ceiling") = c.in_err-ceiling.ensures.none in
    passed_on (ChooseNone rows) c.from_residual-in_err-ceiling.result c.in_err-ceiling.field-0.0 c.from_residual-in_err-ceiling.ensures.1
    c.in_err-ceiling.ensures.fault (no_ceiling rows none)

pub returns-in_err-base-clause-fault : goal.returns-in_err-base-clause-fault
returns-in_err-base-clause-fault c =
    let rows = rows_of (found_of c.args.options.now) in
    let none : GivesNoneBelow (2 ^ 64) rows (codes "base") = c.in_err-base.ensures.none in
    passed_on (ChooseNone rows) c.from_residual-in_err-base.result c.in_err-base.field-0.0 c.from_residual-in_err-base.ensures.1
    c.in_err-base.ensures.fault (no_base rows none)

pub returns-clause-fault : goal.returns-clause-fault
returns-clause-fault c =
    let rows = rows_of (found_of c.args.options.now) in
    refused_by (ChooseNone rows) (¬ (IsSettings (settings_of c))) c.check.result c.check.ensures.only (none_in_range rows (settings_of c) (chosen c)) c.check.ensures.err
