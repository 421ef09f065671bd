use Rattle.std.proofs.lemmas.Result.{on_ok_weaker}
use Rattle.inst_command.specs.declared.step.Step.TheVariants as step
use Rattle.inst_json.proofs.StepLines.{step_printable, step_back}
use Rattle.inst_json.proofs.step_lines.append_step.Goals as goal

pub returns-in-Ask-clause-back : goal.returns-in-Ask-clause-back
returns-in-Ask-clause-back c =
    let fits = rw c.in-Ask.is at c.requires in
    rw c.in-Ask.is (on_ok_weaker c.append_ask.result (step_back c.args.settings.now (step.Ask c.in-Ask.ask) fits) c.append_ask.ensures.form)

pub returns-in-Ask-clause-printable : goal.returns-in-Ask-clause-printable
returns-in-Ask-clause-printable c =
    rw c.in-Ask.is (on_ok_weaker c.append_ask.result (step_printable c.args.settings.now (step.Ask c.in-Ask.ask)) c.append_ask.ensures.form)

pub returns-in-Deliver-clause-back : goal.returns-in-Deliver-clause-back
returns-in-Deliver-clause-back c =
    let fits = rw c.in-Deliver.is at c.requires in
    let back = step_back c.args.settings.now (step.Deliver c.in-Deliver.from c.in-Deliver.index c.in-Deliver.to) fits c.append_passing.ensures.form in
    rw c.in-Deliver.is (on_ok_weaker c.append_passing.result (λ _. back) c.append_passing.ensures.text)

pub returns-in-Deliver-clause-printable : goal.returns-in-Deliver-clause-printable
returns-in-Deliver-clause-printable c =
    let printable = step_printable c.args.settings.now (step.Deliver c.in-Deliver.from c.in-Deliver.index c.in-Deliver.to) c.append_passing.ensures.form in
    rw c.in-Deliver.is (on_ok_weaker c.append_passing.result (λ _. printable) c.append_passing.ensures.text)

pub returns-in-Learn-clause-back : goal.returns-in-Learn-clause-back
returns-in-Learn-clause-back c =
    let fits = rw c.in-Learn.is at c.requires in
    let back = step_back c.args.settings.now (step.Learn c.in-Learn.who c.in-Learn.from c.in-Learn.index) fits c.append_passing-in-Learn.ensures.form in
    rw c.in-Learn.is (on_ok_weaker c.append_passing-in-Learn.result (λ _. back) c.append_passing-in-Learn.ensures.text)

pub returns-in-Learn-clause-printable : goal.returns-in-Learn-clause-printable
returns-in-Learn-clause-printable c =
    let printable = step_printable c.args.settings.now (step.Learn c.in-Learn.who c.in-Learn.from c.in-Learn.index) c.append_passing-in-Learn.ensures.form in
    rw c.in-Learn.is (on_ok_weaker c.append_passing-in-Learn.result (λ _. printable) c.append_passing-in-Learn.ensures.text)

pub returns-in-Expire-clause-back : goal.returns-in-Expire-clause-back
returns-in-Expire-clause-back c =
    let fits = rw c.in-Expire.is at c.requires in
    let back = step_back c.args.settings.now (step.Expire c.in-Expire.who c.in-Expire.index c.in-Expire.at) fits c.append_expiry.ensures.form in
    rw c.in-Expire.is (on_ok_weaker c.append_expiry.result (λ _. back) c.append_expiry.ensures.text)

pub returns-in-Expire-clause-printable : goal.returns-in-Expire-clause-printable
returns-in-Expire-clause-printable c =
    let printable = step_printable c.args.settings.now (step.Expire c.in-Expire.who c.in-Expire.index c.in-Expire.at) c.append_expiry.ensures.form in
    rw c.in-Expire.is (on_ok_weaker c.append_expiry.result (λ _. printable) c.append_expiry.ensures.text)
