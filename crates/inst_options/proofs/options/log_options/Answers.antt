use Rattle.std.proofs.Common.{codes, inr}
use Rattle.clap.specs.Words.{found_of}
use Rattle.inst_options.proofs.OptionsOfLog.{given_text, given_none}
use Rattle.inst_options.proofs.options.log_options.Goals as goal

pub returns-in-Some-clause-log : goal.returns-in-Some-clause-log
returns-in-Some-clause-log c =
    let options = found_of c.args.options.now in (
      given_text options (codes "log") c.get_str-path.result c.in-Some.path c.get_str-path.ensures c.in-Some.is,
      c.number_given-told.ensures,
      (c.flag.result, c.flag.ensures, c.must_resume-resume.ensures),
      c.in_ok-digest.ensures.digest,
    )

pub returns-in-None-clause-none : goal.returns-in-None-clause-none
returns-in-None-clause-none c =
    inr (given_none (found_of c.args.options.now) (codes "log") c.get_str-path.result c.get_str-path.ensures c.in-None.is, c.describe_a_log.ensures c.if-describe_a_log.true)

pub returns-in-None-2-clause-log : goal.returns-in-None-2-clause-log
returns-in-None-2-clause-log c = given_none (found_of c.args.options.now) (codes "log") c.get_str-path.result c.get_str-path.ensures c.in-None-2.is
