use Rattle.std.proofs.Common.{◌≡◌, ◌∙◌, Some, option_map, sym, ap, subst}
use Rattle.std.specs.Box.{box_value}
use Rattle.clap.specs.declared.parser.matches.ArgMatches.TheViews.{out-ArgMatches, out-SubCommand}
use Rattle.clap.specs.Words.{found_of, rows_of, subcommand_rows_of}
use Rattle.inst_options.specs.inner.Asking.{IsAsked, IsUnasked}
use Rattle.inst_options.proofs.OptionsWithoutSettings.{both_of}
use Rattle.inst_options.proofs.words.asked.Goals as goal
use Rattle.inst_options.proofs.words.asked.Goals.{In-Some}

-- the subcommand that was found is of this name, with these options
found : (c : In-Some) → subcommand_rows_of c.args.matches.now ≡ Some (c.in-Some.name.now, rows_of (found_of c.in-Some.options.now))
found c =
    both_of (out-ArgMatches c.args.matches.now).subcommand (λ b. (out-SubCommand (box_value b)).name.now)
    (λ b. rows_of (found_of (out-SubCommand (box_value b)).matches)) c.in-Some.name.now (rows_of (found_of c.in-Some.options.now))
    (sym (ap (option_map (λ p. p.0.now)) c.in-Some.is) ∙ c.subcommand.ensures.name)
    (sym (ap (option_map (λ p. rows_of (found_of p.1.now))) c.in-Some.is) ∙ c.subcommand.ensures.rows)

pub returns-in-Ok-clause-wish : goal.returns-in-Ok-clause-wish
returns-in-Ok-clause-wish c = subst (λ found. IsAsked found c.in-Ok.wish) (sym (found c.before.before)) c.in-Ok.ensures.wish

pub returns-in-Err-clause-none : goal.returns-in-Err-clause-none
returns-in-Err-clause-none c =
    subst (λ found. IsUnasked found c.refused.result) (sym (found c.before.before.before))
    (c.in-Err.fault, c.refused.ensures, c.in-Err.ensures.fault)
