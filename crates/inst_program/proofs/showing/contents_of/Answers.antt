use Rattle.std.proofs.Common.{◌≡◌, ◌∙◌, ℕ, List, sym, subst, arith}
use Rattle.std.proofs.lemmas.Result.{err_from_is_err_and}
use Rattle.std.specs.Prelude.{unwrap_or}
use Rattle.inst_log.specs.Layout.{recovered_lines}
use Rattle.inst_chain.specs.Summing.{HasFirst, IsSummary, Unsummed}
use Rattle.inst_logged.specs.LogHeader.{IsHeaderLine}
use Rattle.inst_program.proofs.PassedOnOutcome.{err_all_at}
use Rattle.inst_program.proofs.Statuses.{refused_by}
use Rattle.inst_program.proofs.ReportOnLog.{damaged_bad, last_of, no_byte_bad, of_the_file, only_none, says_so, unread_bad, unsummed_bad}
use Rattle.inst_program.proofs.showing.contents_of.Goals as goal

pub returns-in_err-reader-clause-err : goal.returns-in_err-reader-clause-err
returns-in_err-reader-clause-err g c =
    let name = c.args.path.now in
    err_all_at c.from_residual.result _ (err_from_is_err_and c.from_residual.result c.from_residual.ensures.1)
    (λ e is two clean good.
    no_byte_bad ((g.L.Logs.files c.args.logs.now).bytes name) ((g.L.Logs.files c.read.new.self).bytes name) (c.in_err-reader.ensures.untouched.all clean name).same
    (only_none _ (refused_by _ _ c.in_err-reader.field-0.0 e is c.in_err-reader.ensures.cause two) clean) good)

pub returns-in-Err-clause-err : goal.returns-in-Err-clause-err
returns-in-Err-clause-err g c two clean good =
    let name = c.args.path.now in
    let file = (g.L.Logs.files c.args.logs.now).bytes name in
    unsummed_bad file c.in-Err.error
    (of_the_file _ (λ (f : List ℕ). Unsummed f c.in-Err.error) _ file (c.in_ok-reader.ensures.bytes clean) (c.in_ok-reader.ensures.untouched.all clean name).same c.in-Err.ensures.none)
    (c.ending_of.ensures two) good

pub returns-in_default-clause-err : goal.returns-in_default-clause-err
returns-in_default-clause-err g c two clean good =
    let name = c.args.path.now in
    let file = (g.L.Logs.files c.args.logs.now).bytes name in
    let summary = of_the_file _ (λ (f : List ℕ). IsSummary f c.in-Ok.summary) _ file (c.in_ok-reader.ensures.bytes clean) (c.in_ok-reader.ensures.untouched.all clean name).same c.in-Ok.ensures.found in
    unread_bad file c.deref.result.now c.in_ok-beginning.field-0 c.in_ok-beginning.ensures c.in_default.is
    (subst (HasFirst (recovered_lines file)) (sym c.deref.ensures.value) summary.first) good

pub returns-in-Err-digest_of-clause-err : goal.returns-in-Err-digest_of-clause-err
returns-in-Err-digest_of-clause-err g c two clean good =
    let name = c.args.path.now in
    let file = (g.L.Logs.files c.args.logs.now).bytes name in
    let summary = of_the_file _ (λ (f : List ℕ). IsSummary f c.in-Ok.summary) _ file (c.in_ok-reader.ensures.bytes clean) (c.in_ok-reader.ensures.untouched.all clean name).same c.in-Ok.ensures.found in
    damaged_bad file c.deref-2.result.now c.in_ok-version_of.field-0 c.in_ok-version_of.ensures.back
    (subst (HasFirst (recovered_lines file)) (sym c.deref-2.ensures.value) summary.first) c.in-Ok.summary.chain c.in-Err-digest_of.right summary.chain
    (sym c.unwrap_or-version.ensures ∙ c.in-Err-digest_of.ensures.none.0) c.in-Err-digest_of.ensures.none.1 good

pub returns-clause-ok : goal.returns-clause-ok
returns-clause-ok g c clean =
    let name = c.args.path.now in
    let file = (g.L.Logs.files c.args.logs.now).bytes name in
    let summary = of_the_file _ (λ (f : List ℕ). IsSummary f c.in-Ok.summary) _ file (c.in_ok-reader.ensures.bytes clean) (c.in_ok-reader.ensures.untouched.all clean name).same c.in-Ok.ensures.found in
    record {
      begins = summary.first;
      version = c.unwrap_or-version.result;
      last = last_of c.unwrap_or-version.result file c.in-Ok.summary.chain c.in-Ok-digest_of.digest summary.chain c.in-Ok-digest_of.ensures.digest;
      books = unwrap_or c.in-Some.beginning.books 0;
      says = λ v mode s n line.
          let says = says_so c.in-Ok.summary.first.items c.in_ok-version_of.field-0 c.in-Some.beginning c.in_ok-beginning.field-0
          (λ v m s b line. c.in_ok-version_of.ensures.back v m s b (subst (IsHeaderLine v m s b) (sym c.deref-2.ensures.value) line))
          (λ v m s b line. c.in_ok-beginning.ensures v m s b (subst (IsHeaderLine v m s b) (sym c.deref.ensures.value) line)) c.in-Some.is v mode s n line in
          (c.unwrap_or-version.ensures ∙ says.0, says.1);
      count = omega (arith, c.saturating_sub-lines.ensures, c.saturating_sub.ensures, c.unwrap_or.ensures, summary.count);
    }
