use Rattle.std.proofs.Common.{◌≡◌, [], true, map, string_bytes, refl, subst}
use Rattle.std.proofs.lemmas.Result.{IfOk-weaker, IfErr-weaker}
use Rattle.clap.proofs.OnLiterals.{clap_on_literals}
use Rattle.clap.specs.Words.{HasKind, HasMatchesOf, fault_of, is_simple, is_simple_and_free, subcommand_of, subcommand_rows_of}
use Rattle.inst_options.specs.CommandLine.{command_line}
use Rattle.inst_options.specs.Asking.{AreWhole}
use Rattle.inst_options.proofs.OptionTextsAndNumbers.{unread}
use Rattle.inst_options.proofs.OptionsWithoutSettings.{unwished_from, wished_from}
use Rattle.inst_options.proofs.words.wished.Goals as goal

simple : is_simple command_line ≡ true
unfolding clap_on_literals
simple = refl

free : is_simple_and_free command_line ≡ true
unfolding clap_on_literals
free = refl

pub returns-in-Err-clause-ok : goal.returns-in-Err-clause-ok
returns-in-Err-clause-ok c = tt

pub returns-in-Err-clause-err : goal.returns-in-Err-clause-err
returns-in-Err-clause-err c =
    let words = map string_bytes c.args.words.now in
    let kinds = subst (λ app. is_simple_and_free app ≡ true → HasKind (fault_of app words) c.in-Err.error) c.in_ok-command_line.ensures c.in-Err.ensures.kinds in
    unread words c.in-Err.error c.error_of.result (kinds free) c.error_of.ensures

pub returns-in-Ok-clause-ok : goal.returns-in-Ok-clause-ok
returns-in-Ok-clause-ok c =
    let words = map string_bytes c.args.words.now in
    let whole : AreWhole words = (subst (λ app. is_simple_and_free app ≡ true → fault_of app words ≡ []) c.in_ok-command_line.ensures c.in-Ok.ensures.kinds) free in
    let found : HasMatchesOf command_line words c.in-Ok.matches = subst (λ app. HasMatchesOf app words c.in-Ok.matches) c.in_ok-command_line.ensures c.in-Ok.ensures.matches in
    let rows : subcommand_rows_of c.in-Ok.matches ≡ subcommand_of command_line words = (found simple).1 in
    IfOk-weaker c.asked.result _ _ (wished_from words (subcommand_rows_of c.in-Ok.matches) whole rows) c.asked.ensures.wish

pub returns-in-Ok-clause-err : goal.returns-in-Ok-clause-err
returns-in-Ok-clause-err c =
    let words = map string_bytes c.args.words.now in
    let whole : AreWhole words = (subst (λ app. is_simple_and_free app ≡ true → fault_of app words ≡ []) c.in_ok-command_line.ensures c.in-Ok.ensures.kinds) free in
    let found : HasMatchesOf command_line words c.in-Ok.matches = subst (λ app. HasMatchesOf app words c.in-Ok.matches) c.in_ok-command_line.ensures c.in-Ok.ensures.matches in
    let rows : subcommand_rows_of c.in-Ok.matches ≡ subcommand_of command_line words = (found simple).1 in
    IfErr-weaker c.asked.result _ _ (unwished_from words (subcommand_rows_of c.in-Ok.matches) whole rows) c.asked.ensures.none
