use Rattle.std.proofs.Common.{◌≡◌, ◌∙◌, Ok, Option, Some, None, List, ℕ, take, ap, sym, subst}
use Rattle.std.proofs.lemmas.Result.{err_from_is_err_and}
use Rattle.inst_log.specs.Layout.{recovered_lines, blocks}
use Rattle.inst_log.specs.Opening.{Begins}
use Rattle.inst_books.specs.Books.{all_events}
use Rattle.inst_logged.specs.declared.version.Version.{Version}
use Rattle.inst_logged.specs.Header.{AreFirstLines}
use Rattle.inst_logged.proofs.BooksBehindFirstLine.{version_there, version_same, books_unrefused, none_found, some_found, unrefused_err}
use Rattle.inst_logged.proofs.hub.new_hub.NewHub.of_log.Goals as goal

pub returns-in_default-clause-found : goal.returns-in_default-clause-found
returns-in_default-clause-found g c = λ clean version first are begins _.
    let file = g.D.Disk.seen c.args.disk.now in
    let is = c.deref.ensures.value ∙ c.in_ok-first.ensures.lines clean in
    let no : ◌≡◌ {A = Option Version} None (Some version) =
    sym c.in_default.is ∙ version_there c.args.mode c.args.settings.now first file c.deref.result.now c.in_ok-version.field-0 c.in_ok-version.ensures.back version are begins is in
    cc no

pub returns-in_err-found-clause-found : goal.returns-in_err-found-clause-found
returns-in_err-found-clause-found g c = λ clean version first are begins.
    let mode = c.args.mode in
    let s = c.args.settings.now in
    let v = c.in-Some.version in
    let file = g.D.Disk.seen c.read_lines.new.disk in
    let seen = c.read_lines.ensures.read.left.same in
    let lines = c.in_ok-first.ensures.lines (c.books_on.ensures.read.clean clean) ∙ ap (λ (f : List ℕ). blocks (take 1 (recovered_lines f))) (sym seen) in
    let here = subst (Begins first) (sym seen) begins in
    let same = version_same mode s first file c.deref.result.now c.in_ok-version.field-0 c.in_ok-version.ensures.back version are here (c.deref.ensures.value ∙ lines) v c.in-Some.is in
    let finds = c.books_on.ensures.found clean in
    unrefused_err _ c.from_residual-in_err-found.result c.in_err-found.field-0.0 (err_from_is_err_and c.from_residual-in_err-found.result c.from_residual-in_err-found.ensures.1)
    (books_unrefused (λ books. (all_events books.journals.items, books.previous)) v mode s first file c.deref-2.result.now c.books_on.result finds (subst (λ (w : Version). AreFirstLines w mode s first) (sym same) are) here (c.deref-2.ensures.value ∙ lines)
    c.in_err-found.field-0.0 c.in_err-found.was)

pub returns-in-Some-2-clause-found : goal.returns-in-Some-2-clause-found
returns-in-Some-2-clause-found g c = λ clean version first are begins.
    let mode = c.args.mode in
    let s = c.args.settings.now in
    let v = c.in-Some.version in
    let file = g.D.Disk.seen c.read_lines.new.disk in
    let seen = c.read_lines.ensures.read.left.same in
    let lines = c.in_ok-first.ensures.lines (c.books_on.ensures.read.clean clean) ∙ ap (λ (f : List ℕ). blocks (take 1 (recovered_lines f))) (sym seen) in
    let here = subst (Begins first) (sym seen) begins in
    let same = version_same mode s first file c.deref.result.now c.in_ok-version.field-0 c.in_ok-version.ensures.back version are here (c.deref.ensures.value ∙ lines) v c.in-Some.is in
    let finds = c.books_on.ensures.found clean in
    let hub = c.in_ok-open_from-in-Some-2.ensures.new in (
      hub.version_is ∙ same,
      hub.first_is ∙ some_found (λ books. (all_events books.journals.items, books.previous)) v mode s first file c.deref-2.result.now c.books_on.result finds (subst (λ (w : Version). AreFirstLines w mode s first) (sym same) are) here (c.deref-2.ensures.value ∙ lines)
          c.in-Some-2.found (c.in_ok-found.was ∙ ap Ok c.in-Some-2.is) c.deref-in-Some-2.result.now (ap all_events (sym c.deref-in-Some-2.ensures.value)),
    )

pub returns-clause-found : goal.returns-clause-found
returns-clause-found g c = λ clean version first are begins.
    let mode = c.args.mode in
    let s = c.args.settings.now in
    let v = c.in-Some.version in
    let file = g.D.Disk.seen c.read_lines.new.disk in
    let seen = c.read_lines.ensures.read.left.same in
    let lines = c.in_ok-first.ensures.lines (c.books_on.ensures.read.clean clean) ∙ ap (λ (f : List ℕ). blocks (take 1 (recovered_lines f))) (sym seen) in
    let here = subst (Begins first) (sym seen) begins in
    let same = version_same mode s first file c.deref.result.now c.in_ok-version.field-0 c.in_ok-version.ensures.back version are here (c.deref.ensures.value ∙ lines) v c.in-Some.is in
    let finds = c.books_on.ensures.found clean in
    let hub = c.in_ok-open-in-None.ensures in (
      hub.version_is ∙ same,
      hub.first_is ∙ none_found (λ books. (all_events books.journals.items, books.previous)) v mode s first file c.deref-2.result.now c.books_on.result finds (subst (λ (w : Version). AreFirstLines w mode s first) (sym same) are) here (c.deref-2.ensures.value ∙ lines)
          (c.in_ok-found.was ∙ ap Ok c.in-None.is),
    )
